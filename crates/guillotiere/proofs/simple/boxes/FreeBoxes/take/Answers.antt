use Rattle.std.proofs.Common.{◌≡◌, ℕ, ◌+◌, ◌<◌, List, [], ◌∷◌, ◌++◌, map, max, length, vec_len, refl, sym, ap, subst₂, ◌∙◌, arith}
use Rattle.std.proofs.Math.Nat.{max-eq_left, max-eq_right}
use Rattle.std.proofs.lemmas.List.{map-append, length-map}
use Rattle.guillotiere.specs.FreeBoxes.BoxShelves.{IsClaimed, box_shelf, stored_item}
use Rattle.atlas_search.specs.Items.{Item, no_item}
use Rattle.guillotiere.proofs.SimpleLemmas.BoxShelves.{taken-new, taken-again, unused-inside}
use Rattle.guillotiere.proofs.SimpleLemmas.ItemBoxes.{boxes-more, read-item}
use Rattle.guillotiere.proofs.SimpleLemmas.EntryCounts.{used-all, used-less}
use Rattle.guillotiere.proofs.simple.boxes.FreeBoxes.take.Goals as goal

pub index-requires : goal.index-requires
index-requires g c =
    let t = c.requires.kept in
    let l = unused-inside t.0 c.args.self.now.table.heads (map stored_item c.args.self.now.entries.items) c.args.self.now.unused
    c.args.self.now.used c.if-at.false t.1 in
    omega (arith, l, length-map c.args.self.now.entries.items stored_item, c.args.self.now.entries.ok)

pub push_reserved-requires : goal.push_reserved-requires
push_reserved-requires g c =
    let t = c.requires.kept in
    let all = used-all t.0 (box_shelf c.args.self.now) t.1 c.if-at.true in
    omega (arith, all, length-map c.args.self.now.entries.items stored_item, c.args.self.now.entries.ok, c.requires.room.room)

pub returns-then-at-clause-taken : goal.returns-then-at-clause-taken
returns-then-at-clause-taken g c o kept =
    let bs = c.args.self.now.entries.items in
    let heads = c.args.self.now.table.heads in
    let unused = c.args.self.now.unused in
    let used = c.args.self.now.used in
    let all = used-all o (box_shelf c.args.self.now) kept c.if-at.true in
    let short : length (map stored_item bs) < 4261412864 = omega (arith, all, c.requires.room.short) in
    let is : map stored_item c.push_reserved.new.self.items ≡ map stored_item bs ++ no_item ∷ [] =
    ap (map stored_item) {x = c.push_reserved.new.self.items} c.push_reserved.ensures.items ∙
    (map-append stored_item bs (c.unused_box.result ∷ []) ∙ ap (λ (t : Item). map stored_item bs ++ t ∷ []) c.unused_box.ensures) in
    let last : c.len-number.result ≡ length (map stored_item bs) = omega
    (arith, c.len-number.ensures, c.args.self.now.entries.ok, length-map bs stored_item) in
    subst₂ (λ (ts : List Item) (n : ℕ). IsClaimed o (record { entries = ts; heads = heads; unused = unused; used = used + 1 }) n) (sym is)
    (sym last)
    (taken-new o heads (map stored_item bs) unused used short kept)

pub returns-then-at-clause-boxes : goal.returns-then-at-clause-boxes
returns-then-at-clause-boxes g c = grind (arith, map-append, boxes-more)

pub returns-then-at-clause-entries : goal.returns-then-at-clause-entries
returns-then-at-clause-entries g c =
    let t = c.requires.kept in
    let all = used-all t.0 (box_shelf c.args.self.now) t.1 c.if-at.true in
    let more : max (vec_len c.args.self.now.entries) (c.args.self.now.used + 1) ≡ c.args.self.now.used + 1 =
    max-eq_right (omega (arith, all, c.args.self.now.entries.ok, length-map c.args.self.now.entries.items stored_item)) in
    record {
      used = refl;
      length = omega (
        arith,
        more,
        all,
        c.args.self.now.entries.ok,
        length-map c.args.self.now.entries.items stored_item,
        c.push_reserved.ensures.len,
      );
      capacity = c.push_reserved.ensures.capacity;
    }

pub returns-else-at-clause-taken : goal.returns-else-at-clause-taken
returns-else-at-clause-taken g c o kept =
    let bs = c.args.self.now.entries.items in
    let inside : c.args.self.now.unused.number < length bs =
    omega (
      arith,
      unused-inside o c.args.self.now.table.heads (map stored_item bs) c.args.self.now.unused c.args.self.now.used c.if-at.false kept,
      length-map bs stored_item,
    ) in
    taken-again o c.args.self.now.table.heads (map stored_item bs) c.args.self.now.unused c.index.result.now.up c.args.self.now.used
    c.if-at.false
    (ap (λ (e : Item). e.up) (read-item bs c.args.self.now.unused.number c.index.result.now inside c.index.ensures)) kept

pub returns-else-at-clause-entries : goal.returns-else-at-clause-entries
returns-else-at-clause-entries g c =
    let t = c.requires.kept in
    let less = used-less t.0 (box_shelf c.args.self.now) t.1 c.if-at.false in
    record {
      used = refl;
      length = sym (max-eq_left (omega (arith, less, c.args.self.now.entries.ok, length-map c.args.self.now.entries.items stored_item)));
      capacity = refl;
    }
