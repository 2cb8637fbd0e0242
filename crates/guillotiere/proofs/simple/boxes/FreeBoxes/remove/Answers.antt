use Rattle.std.proofs.Common.{◌≡◌, ◌+◌, ◌-◌, ◌∷◌, refl, List, subst, sym, arith}
use Rattle.atlas_search.specs.Items.{Item}
use Rattle.atlas_model.specs.Boxes.{AreSameBoxes}
use Rattle.atlas_model.specs.Pixels.{box_of}
use Rattle.guillotiere.specs.FreeBoxes.BoxShelves.{AreKept, box_shelf, free_item_boxes}
use Rattle.guillotiere.proofs.SimpleLemmas.ItemBoxes.{idle-written}
use Rattle.guillotiere.proofs.SimpleLemmas.Unlisting.{remove-boxes, remove-kept}
use Rattle.guillotiere.proofs.SimpleLemmas.EntryCounts.{used-some}
use Rattle.guillotiere.proofs.simple.boxes.FreeBoxes.remove.Goals as goal

pub overflow_sub-self : goal.overflow_sub-self
overflow_sub-self g c =
    let u = c.unlist.ensures.unlisted c.requires.kept.0 c.requires.kept.1 in
    omega (
      arith,
      u.used,
      used-some c.requires.kept.0 (box_shelf c.args.self.now) c.args.found.at.number c.requires.kept.1
          c.requires.standing.free,
    )

pub returns-clause-used : goal.returns-clause-used
returns-clause-used g c =
    let u = c.unlist.ensures.unlisted c.requires.kept.0 c.requires.kept.1 in
    omega (
      arith,
      u.used,
      used-some c.requires.kept.0 (box_shelf c.args.self.now) c.args.found.at.number c.requires.kept.1
          c.requires.standing.free,
    )

pub returns-clause-kept : goal.returns-clause-kept
returns-clause-kept g c o kept =
    let v = box_shelf c.args.self.now in
    let w = box_shelf c.unlist.new.self in
    let x = c.args.found.at.number in
    let u = c.unlist.ensures.unlisted o kept in
    let some = used-some o v x kept c.requires.standing.free in
    let less : (c.unlist.new.self.used - 1) + 1 ≡ c.args.self.now.used = omega (arith, some, u.used) in
    subst (λ (ts : List Item). AreKept o (record {
      entries = ts;
      heads = w.heads;
      unused = c.args.found.at;
      used =
          c.unlist.new.self.used - 1;
    }))
    (sym (idle-written c.unlist.new.self.entries.items x c.unused_box.result c.unlist.new.self.unused c.args.self.now.unused
    c.unused_box.ensures u.unused))
    (remove-kept o v kept x c.requires.standing.free w u (c.unlist.new.self.used - 1) less c.args.found.at refl)

pub returns-clause-boxes : goal.returns-clause-boxes
returns-clause-boxes g c =
    let o = c.requires.kept.0 in
    let v = box_shelf c.args.self.now in
    let w = box_shelf c.unlist.new.self in
    let x = c.args.found.at.number in
    let u = c.unlist.ensures.unlisted o c.requires.kept.1 in
    let some = used-some o v x c.requires.kept.1 c.requires.standing.free in
    let less : (c.unlist.new.self.used - 1) + 1 ≡ c.args.self.now.used = omega (arith, some, u.used) in
    subst (λ (ts : List Item). AreSameBoxes (box_of c.args.found.rectangle ∷ free_item_boxes ts) (free_item_boxes v.entries))
    (sym (idle-written c.unlist.new.self.entries.items x c.unused_box.result c.unlist.new.self.unused c.args.self.now.unused
    c.unused_box.ensures u.unused))
    (remove-boxes o v c.requires.kept.1 x c.requires.standing.free w u (c.unlist.new.self.used - 1) less c.args.found.rectangle
    c.requires.standing.area)
