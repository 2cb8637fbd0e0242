use Rattle.std.proofs.Common.{ℕ, ◌≡◌, ◌≢◌, ◌≤◌, ◌-◌, true, List, map, length, refl, sym, ap, subst, arith}
use Rattle.std.proofs.lemmas.List.{length-map, with_items_is}
use Rattle.guillotiere.specs.declared.simple.boxes.FreeBox.{FreeBox}
use Rattle.atlas_search.specs.declared.link.Link.{Link}
use Rattle.atlas_search.specs.Items.{Item}
use Rattle.atlas_search.specs.Tables.{head_of, is_used_at, CanHold}
use Rattle.guillotiere.specs.FreeBoxes.BoxCalls.{HasUnlisted}
use Rattle.guillotiere.specs.FreeBoxes.BoxShelves.{box_shelf, stored_item}
use Rattle.guillotiere.proofs.SimpleLemmas.ItemBoxes.{free-inside, read-item}
use Rattle.guillotiere.proofs.SimpleLemmas.Unlisting.{can-remove, first-unlisted, next-unlisted, own-few, own_list, tagged-list}
use Rattle.guillotiere.proofs.SimpleLemmas.Unlisting.{tagged-used}
use Rattle.guillotiere.proofs.SimpleLemmas.Unlisting.{unlist-few}
use Rattle.guillotiere.proofs.simple.boxes.FreeBoxes.unlist.Goals as goal

pub index-requires : goal.index-requires
index-requires g c =
    let inside = free-inside (map stored_item c.args.self.now.entries.items) c.args.at.number c.requires.free in
    omega (arith, inside, length-map c.args.self.now.entries.items stored_item, c.args.self.now.entries.ok.0)

pub remove-rest-requires : goal.remove-rest-requires
remove-rest-requires g c = (
  _,
  _,
  _,
  can-remove c.requires.kept.0 (box_shelf c.args.self.now) c.requires.kept.1 c.args.at.number c.requires.free
      (map stored_item c.deref_mut.result.now) (ap (map stored_item) c.deref_mut.ensures.value),
)

pub set_first-requires-clause-number : goal.set_first-requires-clause-number
set_first-requires-clause-number g c =
    let v = box_shelf c.args.self.now in
    let inside = free-inside v.entries c.args.at.number c.requires.free in
    let up = ap (λ (t : Item). t.up) (read-item c.args.self.now.entries.items c.args.at.number c.index.result.now
    (omega (arith, inside, length-map c.args.self.now.entries.items stored_item)) c.index.ensures) in
    let tag = tagged-list c.requires.kept.0 v c.requires.kept.1 c.args.at.number c.requires.free (omega (arith, up, c.if-up-ge-TAG.true)) in
    omega (arith, up, tag, own-few c.requires.kept.0 v c.requires.kept.1 c.args.at.number c.requires.free)

pub set_first-requires-clause-used : goal.set_first-requires-clause-used
set_first-requires-clause-used g c =
    let v = box_shelf c.args.self.now in
    let inside = free-inside v.entries c.args.at.number c.requires.free in
    let up = ap (λ (t : Item). t.up) (read-item c.args.self.now.entries.items c.args.at.number c.index.result.now
    (omega (arith, inside, length-map c.args.self.now.entries.items stored_item)) c.index.ensures) in
    let tag = tagged-list c.requires.kept.0 v c.requires.kept.1 c.args.at.number c.requires.free (omega (arith, up, c.if-up-ge-TAG.true)) in
    subst (λ n. is_used_at c.args.self.now.table.heads n ≡ true) (omega (arith, up, tag))
    (tagged-used c.requires.kept.0 v c.requires.kept.1 c.args.at.number c.requires.free)

pub set_first-requires-clause-few : goal.set_first-requires-clause-few
set_first-requires-clause-few g c small =
    let v = box_shelf c.args.self.now in
    let inside = free-inside v.entries c.args.at.number c.requires.free in
    let up = ap (λ (t : Item). t.up) (read-item c.args.self.now.entries.items c.args.at.number c.index.result.now
    (omega (arith, inside, length-map c.args.self.now.entries.items stored_item)) c.index.ensures) in
    let tag = tagged-list c.requires.kept.0 v c.requires.kept.1 c.args.at.number c.requires.free (omega (arith, up, c.if-up-ge-TAG.true)) in
    let new = c.remove-rest.new.entries in
    subst (λ n. CanHold c.args.self.now.table.heads n c.remove-rest.result) (omega (arith, up, tag))
    (unlist-few c.requires.kept.0 v c.requires.kept.1 c.args.at.number c.requires.free (map stored_item c.deref_mut.result.now)
    (map stored_item new)
    (ap (map stored_item) c.deref_mut.ensures.value) c.remove-rest.result.number c.remove-rest.ensures.removed c.remove-rest.ensures.areas
    (omega (arith, c.args.self.now.room small, c.args.self.now.entries.ok, length-map c.args.self.now.entries.items stored_item))
    (omega (arith, up, c.if-up-ge-TAG.true)) c.remove-rest.result refl)

pub returns-then-up-ge-TAG-clause-unlisted : goal.returns-then-up-ge-TAG-clause-unlisted
returns-then-up-ge-TAG-clause-unlisted g c o kept =
    let v = box_shelf c.args.self.now in
    let x = c.args.at.number in
    let free = c.requires.free in
    let new = c.remove-rest.new.entries in
    let inside = free-inside v.entries x free in
    let up = ap (λ (t : Item). t.up) (read-item c.args.self.now.entries.items x c.index.result.now
    (omega (arith, inside, length-map c.args.self.now.entries.items stored_item)) c.index.ensures) in
    let tagged : 4261412864 ≤ c.index.result.now.up.number = c.if-up-ge-TAG.true in
    let tag = tagged-list o v kept x free (omega (arith, up, tagged)) in
    let k : c.index.result.now.up.number - 4261412864 ≡ own_list o v kept x free = omega (arith, up, tag) in
    let head = ap (λ (l : Link). l.number) (subst (λ n. head_of c.set_first.new.self.heads n ≡ c.remove-rest.result) k
    c.set_first.ensures.head)
    in
    let heads = subst (λ n. (j : ℕ) → j ≢ n → head_of c.set_first.new.self.heads j ≡ head_of c.args.self.now.table.heads j) k
    c.set_first.ensures.heads
    in
    let is = ap (map stored_item) c.deref_mut.ensures.value in
    let long : length new ≡ c.args.self.now.entries.len =
    omega (
      arith,
      c.remove-rest.ensures.areas.long,
      length-map new stored_item,
      length-map c.deref_mut.result.now stored_item,
      ap length c.deref_mut.ensures.value,
      c.args.self.now.entries.ok.0,
    ) in
    subst (λ (bs : List FreeBox). HasUnlisted o v kept (record {
      entries = map stored_item bs;
      heads = c.set_first.new.self.heads;
      unused =
          v.unused;
      used = v.used;
    }) x)
    (sym (with_items_is c.args.self.now.entries new long))
    (first-unlisted o v kept x free (map stored_item c.deref_mut.result.now) (map stored_item new) is c.remove-rest.result.number
    c.remove-rest.ensures.removed c.remove-rest.ensures.areas c.set_first.new.self.heads (omega (arith, up, tagged)) head heads)

pub returns-else-up-ge-TAG-clause-unlisted : goal.returns-else-up-ge-TAG-clause-unlisted
returns-else-up-ge-TAG-clause-unlisted g c o kept =
    let v = box_shelf c.args.self.now in
    let x = c.args.at.number in
    let free = c.requires.free in
    let new = c.remove-rest.new.entries in
    let inside = free-inside v.entries x free in
    let up = ap (λ (t : Item). t.up) (read-item c.args.self.now.entries.items x c.index.result.now
    (omega (arith, inside, length-map c.args.self.now.entries.items stored_item)) c.index.ensures) in
    let is = ap (map stored_item) c.deref_mut.ensures.value in
    let long : length new ≡ c.args.self.now.entries.len =
    omega (
      arith,
      c.remove-rest.ensures.areas.long,
      length-map new stored_item,
      length-map c.deref_mut.result.now stored_item,
      ap length c.deref_mut.ensures.value,
      c.args.self.now.entries.ok.0,
    ) in
    subst (λ (bs : List FreeBox). HasUnlisted o v kept (record {
      entries = map stored_item bs;
      heads = v.heads;
      unused = v.unused;
      used =
          v.used;
    }) x)
    (sym (with_items_is c.args.self.now.entries new long))
    (next-unlisted o v kept x free (map stored_item c.deref_mut.result.now) (map stored_item new) is c.remove-rest.result.number
    c.remove-rest.ensures.removed c.remove-rest.ensures.areas (omega (arith, up, c.if-up-ge-TAG.false)))
