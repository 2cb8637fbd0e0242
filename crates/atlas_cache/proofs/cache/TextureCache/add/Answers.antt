use Rattle.std.proofs.Common.{ap, refl, length, Err, Ok, arith, rules, ◌∙◌, ◌≡◌, ◌+◌, ◌*◌}
use Rattle.atlas_cache.proofs.CacheLemmas.{is_bordered}
use Rattle.atlas_cache.proofs.ListLemmas.{length-listed, not-numbered}
use Rattle.atlas_cache.specs.Caches.{entries_of}
use Rattle.atlas_cache.proofs.ReadyLemmas.{error_is, one_fewer, reserves_left}
use Rattle.atlas_cache.proofs.RoomLemmas.PageReserves.{none_used, slots_left}
use Rattle.atlas_cache.proofs.VacatedLemmas.{on_err}
use Rattle.atlas_cache.proofs.cache.TextureCache.add.Goals as goal

pub grant-requires-clause-absent : goal.grant-requires-clause-absent
grant-requires-clause-absent g c =
    let absent = rw (← c.self.view_is) at c.requires.absent in
    rw (not-numbered g.K.PartialEq.eq c.args.key c.self.inside.entries.entries absent) refl

pub grant-requires-clause-inside : goal.grant-requires-clause-inside
grant-requires-clause-inside g c = rw (← c.self.view_is) at c.requires.inside

pub grant-requires-clause-others : goal.grant-requires-clause-others
grant-requires-clause-others g c = rw (← c.self.view_is) at c.requires.others

pub returns-in_default-clause-full : goal.returns-in_default-clause-full
returns-in_default-clause-full g c = λ _.
    rw (← c.self.view_is) (c.in_ok-granted.ensures.full (ap Ok c.in_default.is))

pub invariant_of-self-2 : goal.invariant_of-self-2
invariant_of-self-2 g c =
    let it = c.self.inside in
    let e = c.in-Some.entry in
    let was = c.self.invariant in
    let placed = rw c.in-Some.is at c.in_ok-granted.ensures.placed in
    let first = rw c.in-Some.is at c.in_ok-granted.ensures.first in
    let options = c.in_ok-granted.ensures.options in
    let usable = rw (c.options.ensures.options, options) at c.options.ensures.usable in
    let stands = rw (← c.self.view_is) at c.requires.stands in
    let asked = rw (← c.self.view_is) at c.requires.asked in
    let lies = rw c.in-Some.is at c.in_ok-granted.ensures.lies in
    let falls = was.frames in
    let here = placed.used in
    record {
      held = c.in_ok-granted.ensures.held;
      bordered = rw (options, first)
          (is_bordered it.rooms.options c.args.asked c.args.size e usable stands asked placed.large placed.sized lies, was.bordered);
      frames = rw (first, here) (omega arith, falls);
    }

pub returns-clause-adds : goal.returns-clause-adds
returns-clause-adds g c =
    let it = c.self.inside in
    let next = rw c.in-Some.is at c.in_ok-granted.ensures.next in
    let made = rw c.in-Some.is at c.in_ok-granted.ensures.made in
    let reserved = rw c.in-Some.is at c.in_ok-granted.ensures.reserved in
    let placed = rw c.in-Some.is at c.in_ok-granted.ensures.placed in
    let first = rw c.in-Some.is at c.in_ok-granted.ensures.first in
    rw (← c.self.view_is) (record {
      entry = c.in-Some.entry;
      first = first;
      placed = placed;
      sides = rw c.in-Some.is at c.in_ok-granted.ensures.sides;
      slots = c.grant.ensures.slots;
      next = next.next;
      dense = λ same. length-listed it.entries.entries ∙ next.dense same;
      numbers = made;
      reserved = reserved;
      shows = rw (c.place_of.ensures, c.options.ensures.options, c.in_ok-granted.ensures.options) refl;
      sizes = c.in_ok-granted.ensures.sizes;
      options = c.in_ok-granted.ensures.options;
      frame = refl;
      counts = refl;
    })

pub returns-in_err-granted-clause-reserves : goal.returns-in_err-granted-clause-reserves
returns-in_err-granted-clause-reserves g c =
    let same : c.from_residual.result ≡ Err c.in_err-granted.field-0.0 = search rules in
    rw (← c.self.view_is) (λ n room had. (
      λ is. c.in_err-granted.ensures.memory (omega (arith, had.entries))
          (slots_left 0 4 (4 * (n + 1)) _ _ (omega arith) (none_used 0 _) had.slots)
          (ap Err (error_is c.in_err-granted.field-0.0 c.from_residual.result same is)),
      reserves_left n (n + 1) room room 4 _ _ c.grant.ensures.slots (omega arith)
          (omega (arith, ap (λ t. t.reserved) c.in_err-granted.ensures.refused.1))
          (omega (arith, ap (λ t. length (entries_of t.entries)) c.in_err-granted.ensures.refused.1)) had,
    ))

pub returns-in_default-clause-reserves : goal.returns-in_default-clause-reserves
returns-in_default-clause-reserves g c =
    let same = c.in_ok-granted.ensures.none (ap Ok c.in_default.is) in
    rw (← c.self.view_is, same.0, same.1) (λ n room had. (λ is. cc, one_fewer n room _ had))

pub returns-clause-reserves : goal.returns-clause-reserves
returns-clause-reserves g c =
    let first = rw c.in-Some.is at c.in_ok-granted.ensures.first in
    let reserved = rw c.in-Some.is at c.in_ok-granted.ensures.reserved in
    rw (← c.self.view_is) (λ n room had. (
      λ is. cc,
      reserves_left n (n + 1) room room 4 _ _ c.grant.ensures.slots (omega arith) (omega (arith, reserved))
          (omega (arith, ap length first)) had,
    ))

pub returns-in_err-granted-clause-short : goal.returns-in_err-granted-clause-short
returns-in_err-granted-clause-short g c = λ is.
    let same : c.from_residual.result ≡ Err c.in_err-granted.field-0.0 = search rules in
    c.in_err-granted.ensures.short (ap Err (error_is c.in_err-granted.field-0.0 c.from_residual.result same is))

pub returns-in_err-granted-clause-slots : goal.returns-in_err-granted-clause-slots
returns-in_err-granted-clause-slots g c = rw (← c.self.view_is) c.grant.ensures.slots

pub returns-in_default-clause-slots : goal.returns-in_default-clause-slots
returns-in_default-clause-slots g c = rw (← c.self.view_is) c.grant.ensures.slots

pub returns-clause-slots : goal.returns-clause-slots
returns-clause-slots g c = rw (← c.self.view_is) c.grant.ensures.slots

pub returns-in_err-granted-clause-already : goal.returns-in_err-granted-clause-already
returns-in_err-granted-clause-already g c = λ is.
    let same : c.from_residual.result ≡ Err c.in_err-granted.field-0.0 = search rules in
    rw (← c.self.view_is)
    (c.in_err-granted.ensures.already (ap Err (error_is c.in_err-granted.field-0.0 c.from_residual.result same is)))

pub returns-in_err-granted-clause-lacks : goal.returns-in_err-granted-clause-lacks
returns-in_err-granted-clause-lacks g c = λ is.
    let same : c.from_residual.result ≡ Err c.in_err-granted.field-0.0 = search rules in
    c.in_err-granted.ensures.lacks (ap Err (error_is c.in_err-granted.field-0.0 c.from_residual.result same is))

pub returns-in_err-granted-clause-refused : goal.returns-in_err-granted-clause-refused
returns-in_err-granted-clause-refused g c =
    let was = c.in_err-granted.ensures.refused in
    on_err c.from_residual.result _ (rw (← c.self.view_is) (record {
      same = was.0;
      slots = c.grant.ensures.slots;
      sizes = c.grant.ensures.sizes;
      keeps = record {
        entries = ap (λ t. entries_of t.entries) was.1;
        numbers = ap (λ t. t.made) was.1;
        reserved = ap (λ t. t.reserved) was.1;
        options = c.grant.ensures.options;
        frame = refl;
        counts = refl;
      };
    }))

pub returns-in_err-granted-clause-errors : goal.returns-in_err-granted-clause-errors
returns-in_err-granted-clause-errors g c =
    let same : c.from_residual.result ≡ Err c.in_err-granted.field-0.0 = search rules in
    let was = c.in_err-granted.ensures.refused in
    rw (same, was.1, length-listed c.self.inside.entries.entries) c.in_err-granted.ensures.errors
