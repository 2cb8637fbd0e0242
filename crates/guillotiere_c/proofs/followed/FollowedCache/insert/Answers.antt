use Rattle.std.proofs.Common.{◌≡◌, ◌-◌, ◌∙◌, ap, arith, drop, length, rules, subst₂, sym, vec_capacity, vec_len}
use Rattle.guillotiere_c.specs.CacheCalls.{IsInsert}
use Rattle.guillotiere_c.specs.Following.{Followed}
use Rattle.guillotiere_c.proofs.followed.FollowedCache.insert.Goals as goal

pub returns : goal.returns
returns c =
    let inside = c.self.inside in
    let left = c.drop_taken.new.changes in
    let all = c.insert.new.changes in
    let left_len : vec_len left ≡ length left.items = search rules in
    let all_len : vec_len all ≡ length all.items = search rules in
    let first : vec_capacity left - vec_len left ≡ vec_capacity inside.changes - length (drop inside.taken inside.changes.items) =
    ap (λ n. n - vec_len left) c.drop_taken.ensures.capacity
    ∙ ap (λ n. vec_capacity inside.changes - n) (left_len ∙ ap length c.drop_taken.ensures.changes) in
    let before =
    ap (λ xs. let f : Followed = record { cache = inside.cache; changes = xs; room = vec_capacity left - vec_len left } in f)
    c.drop_taken.ensures.changes
    ∙ ap (λ n. let f : Followed = record { cache = inside.cache; changes = drop inside.taken inside.changes.items; room = n } in f) first
    ∙ c.self.view_is in
    let whole : all.items ≡ drop c.drop_taken.new.taken all.items =
    sym (ap (λ n. drop n all.items) c.drop_taken.ensures.taken) in
    let last : vec_capacity all - vec_len all ≡ vec_capacity all - length (drop c.drop_taken.new.taken all.items) =
    ap (λ n. vec_capacity all - n) (all_len ∙ ap length whole) in
    let after =
    ap (λ xs. let f : Followed = record { cache = c.insert.new.self; changes = xs; room = vec_capacity all - vec_len all } in f) whole
    ∙ ap (λ n. let f : Followed = record {
      cache = c.insert.new.self;
      changes = drop c.drop_taken.new.taken all.items;
      room = n;
    } in f) last in
    subst₂ (λ (f g : Followed). IsInsert c.args.key c.args.size c.insert.result f g) before after (record {
      known = c.insert.ensures.known;
      blank = c.insert.ensures.blank;
      never = c.insert.ensures.never;
      nothing = c.insert.ensures.nothing;
      placed = c.insert.ensures.placed;
      held = c.insert.ensures.held;
      hit = c.insert.ensures.hit;
      new = c.insert.ensures.new;
      told = c.insert.ensures.told;
      errors = c.insert.ensures.errors;
      room = c.insert.ensures.room;
      short = c.insert.ensures.short;
      lacks = c.insert.ensures.lacks;
      memory = c.insert.ensures.memory;
      one = λ ready slots room keeps. c.insert.ensures.one ready slots (omega (arith, room)) keeps;
      reserves = c.insert.ensures.reserves;
      takes = c.insert.ensures.takes;
      keeps_room = omega (arith, c.insert.ensures.capacity, left_len, all_len, left.ok, all.ok);
      full = c.insert.ensures.full;
      slots = c.insert.ensures.slots;
      already = c.insert.ensures.already;
      allowed = c.insert.ensures.allowed;
      ready = c.insert.ensures.ready;
      unrefused = c.insert.ensures.unrefused;
      stays = c.insert.ensures.stays;
    })
