use Rattle.std.proofs.Common.{◌≡◌, ◌∙◌, map, ap, refl, subst, sym, All, IsSome, Some}
use Rattle.atlas_sheet.proofs.Arrangements.{all_some, packed_arranged}
use Rattle.atlas_sheet.proofs.packing.arrangement_of.Goals as goal

pub returns-clause-arranged : goal.returns-clause-arranged
returns-clause-arranged g c =
    let places : c.in_ok-places.places.items ≡ map Some c.args.packing.places.items =
    c.in_ok-places.ensures.places ∙ ap (map Some) c.deref.ensures.value in
    rw places (packed_arranged c.args.options.now.turn c.requires.good)

pub returns-clause-whole : goal.returns-clause-whole
returns-clause-whole g c =
    let places : c.in_ok-places.places.items ≡ map Some c.args.packing.places.items =
    c.in_ok-places.ensures.places ∙ ap (map Some) c.deref.ensures.value in
    subst (All IsSome) (sym places) (all_some c.args.packing.places.items)

pub returns-clause-first : goal.returns-clause-first
returns-clause-first g c =
    let places : c.in_ok-places.places.items ≡ map Some c.args.packing.places.items =
    c.in_ok-places.ensures.places ∙ ap (map Some) c.deref.ensures.value in (
      record { way = c.args.packing.way; order = c.args.packing.order.items; places = c.args.packing.places.items },
      c.requires,
      refl,
      sym places,
    )
