use Rattle.std.proofs.Common.{◌∙◌, [], refl, List, map, subst, sym, ap, arith, ◌∷◌}
use Rattle.std.specs.Vec.{with_item}
use Rattle.std.proofs.lemmas.List.{with_items_is}
use Rattle.guillotiere.specs.declared.simple.boxes.FreeBox.{FreeBox}
use Rattle.atlas_search.specs.declared.link.Link.{Link}
use Rattle.atlas_search.specs.Bands.{list_of, number_of}
use Rattle.atlas_model.specs.Boxes.{AreSameBoxes}
use Rattle.atlas_model.specs.Pixels.{box_of, options_of}
use Rattle.guillotiere.specs.FreeBoxes.BoxShelves.{AreKept, free_item_boxes, stored_item}
use Rattle.guillotiere.proofs.SimpleLemmas.BoxShelves.{box-can, box-few, box-long, box-put, box-some, lone_box}
use Rattle.guillotiere.proofs.simple.boxes.FreeBoxes.put.Goals as goal

pub push-top-requires : goal.push-top-requires
push-top-requires g c = (
  _,
  box-can (options_of c.args.options.now) c.args.self.now.table.heads c.args.self.now.entries.items c.deref_mut.result.now []
      c.args.self.now.unused
      c.args.self.now.used c.args.at.number (number_of c.place_for-place.result) c.args.area c.requires.claimed c.requires.exact
      (ap (list_of (options_of c.args.options.now)) (sym c.exact_size.ensures.sides) ∙ sym c.place_for-place.ensures.number)
      (omega (arith, c.place_for-place.ensures.row_inside, c.place_for-place.ensures.column_inside)) c.tag.result.number
      c.head.result.number
      c.deref_mut.ensures.value c.tag.ensures (ap (λ (l : Link). l.number) c.head.ensures),
)

pub raise-requires-clause-slot : goal.raise-requires-clause-slot
raise-requires-clause-slot g c =
    box-some (options_of c.args.options.now) c.args.self.now.table.heads c.args.self.now.entries.items c.deref_mut.result.now
    c.push-top.new.entries c.args.self.now.unused
    c.args.self.now.used c.args.at.number (number_of c.place_for-place.result) c.args.area c.requires.claimed c.requires.exact
    (ap (list_of (options_of c.args.options.now)) (sym c.exact_size.ensures.sides) ∙ sym c.place_for-place.ensures.number)
    (omega (arith, c.place_for-place.ensures.row_inside, c.place_for-place.ensures.column_inside)) c.tag.result.number c.head.result.number
    c.deref_mut.ensures.value c.tag.ensures (ap (λ (l : Link). l.number) c.head.ensures) c.push-top.result.number
    c.push-top.ensures.pushed c.push-top.ensures.areas

pub raise-requires-clause-few : goal.raise-requires-clause-few
raise-requires-clause-few g c small =
    box-few (options_of c.args.options.now) c.args.self.now.table.heads c.args.self.now.entries.items c.deref_mut.result.now
    c.push-top.new.entries c.args.self.now.unused
    c.args.self.now.used c.args.at.number (number_of c.place_for-place.result) c.args.area c.requires.claimed c.requires.exact
    (ap (list_of (options_of c.args.options.now)) (sym c.exact_size.ensures.sides) ∙ sym c.place_for-place.ensures.number)
    (omega (arith, c.place_for-place.ensures.row_inside, c.place_for-place.ensures.column_inside)) c.tag.result.number c.head.result.number
    c.deref_mut.ensures.value c.tag.ensures (ap (λ (l : Link). l.number) c.head.ensures) c.push-top.result.number
    c.push-top.ensures.pushed c.push-top.ensures.areas
    (omega (arith, c.args.self.now.room small, c.args.self.now.entries.ok)) c.push-top.result refl

pub returns-clause-kept : goal.returns-clause-kept
returns-clause-kept g c =
    let done = box-put (options_of c.args.options.now) c.args.self.now.table.heads c.args.self.now.entries.items c.deref_mut.result.now
    c.push-top.new.entries c.args.self.now.unused
    c.args.self.now.used c.args.at.number (number_of c.place_for-place.result) c.args.area c.requires.claimed c.requires.exact
    (ap (list_of (options_of c.args.options.now)) (sym c.exact_size.ensures.sides) ∙ sym c.place_for-place.ensures.number)
    (omega (arith, c.place_for-place.ensures.row_inside, c.place_for-place.ensures.column_inside)) c.tag.result.number c.head.result.number
    c.deref_mut.ensures.value c.tag.ensures (ap (λ (l : Link). l.number) c.head.ensures) c.push-top.result.number
    c.push-top.ensures.pushed c.push-top.ensures.areas c.raise.new.self.heads (ap (λ (l : Link). l.number) c.raise.ensures.head)
    c.raise.ensures.heads in
    let long = box-long (options_of c.args.options.now) c.args.self.now.table.heads c.args.self.now.entries.items c.deref_mut.result.now
    c.push-top.new.entries c.args.self.now.unused
    c.args.self.now.used c.args.at.number (number_of c.place_for-place.result) c.args.area c.requires.claimed c.requires.exact
    (ap (list_of (options_of c.args.options.now)) (sym c.exact_size.ensures.sides) ∙ sym c.place_for-place.ensures.number)
    (omega (arith, c.place_for-place.ensures.row_inside, c.place_for-place.ensures.column_inside)) c.tag.result.number c.head.result.number
    c.deref_mut.ensures.value c.tag.ensures (ap (λ (l : Link). l.number) c.head.ensures) c.push-top.result.number
    c.push-top.ensures.pushed c.push-top.ensures.areas in
    let items = with_items_is (with_item c.args.self.now.entries c.args.at.number (lone_box c.args.area)) c.push-top.new.entries
    (long ∙ sym c.args.self.now.entries.ok.0) in
    subst (λ (bs : List FreeBox). AreKept (options_of c.args.options.now)
    (record { entries = map stored_item bs; heads = c.raise.new.self.heads; unused = c.args.self.now.unused; used = c.args.self.now.used }))
    (sym items) done.0

pub returns-clause-boxes : goal.returns-clause-boxes
returns-clause-boxes g c =
    let done = box-put (options_of c.args.options.now) c.args.self.now.table.heads c.args.self.now.entries.items c.deref_mut.result.now
    c.push-top.new.entries c.args.self.now.unused
    c.args.self.now.used c.args.at.number (number_of c.place_for-place.result) c.args.area c.requires.claimed c.requires.exact
    (ap (list_of (options_of c.args.options.now)) (sym c.exact_size.ensures.sides) ∙ sym c.place_for-place.ensures.number)
    (omega (arith, c.place_for-place.ensures.row_inside, c.place_for-place.ensures.column_inside)) c.tag.result.number c.head.result.number
    c.deref_mut.ensures.value c.tag.ensures (ap (λ (l : Link). l.number) c.head.ensures) c.push-top.result.number
    c.push-top.ensures.pushed c.push-top.ensures.areas c.raise.new.self.heads (ap (λ (l : Link). l.number) c.raise.ensures.head)
    c.raise.ensures.heads in
    let long = box-long (options_of c.args.options.now) c.args.self.now.table.heads c.args.self.now.entries.items c.deref_mut.result.now
    c.push-top.new.entries c.args.self.now.unused
    c.args.self.now.used c.args.at.number (number_of c.place_for-place.result) c.args.area c.requires.claimed c.requires.exact
    (ap (list_of (options_of c.args.options.now)) (sym c.exact_size.ensures.sides) ∙ sym c.place_for-place.ensures.number)
    (omega (arith, c.place_for-place.ensures.row_inside, c.place_for-place.ensures.column_inside)) c.tag.result.number c.head.result.number
    c.deref_mut.ensures.value c.tag.ensures (ap (λ (l : Link). l.number) c.head.ensures) c.push-top.result.number
    c.push-top.ensures.pushed c.push-top.ensures.areas in
    let items = with_items_is (with_item c.args.self.now.entries c.args.at.number (lone_box c.args.area)) c.push-top.new.entries
    (long ∙ sym c.args.self.now.entries.ok.0) in
    subst (λ (bs : List FreeBox). AreSameBoxes (free_item_boxes (map stored_item bs))
    (box_of c.args.area ∷ free_item_boxes (map stored_item c.args.self.now.entries.items)))
    (sym items) done.1
