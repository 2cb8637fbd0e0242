use Rattle.std.proofs.Common.{◌<◌, ◌≡◌, ◌∙◌, ap, sym, refl, length, arith}
use Rattle.std.proofs.lemmas.List.{length-map}
use Rattle.atlas_store.specs.Slots.{nodes}
use Rattle.atlas_search.specs.Numbers.{no_slot, same}
use Rattle.atlas_store.proofs.SlotLemmas.Frames.{same-self}
use Rattle.atlas_store.proofs.SlotLemmas.SlotAreas.{free-inside, read-exact}
use Rattle.atlas_store.proofs.SlotLemmas.PlaceWrites.{
  can-place,
  placed-as,
  placed-inside,
  placed-once,
  after-slot,
  whole-by,
  strip_along-by,
  corner_along-by,
  strip_across-by,
  corner_across-by,
}
use Rattle.atlas_store.proofs.slots.placing.place_leaf.Goals as goal

pub read_node-leaf-requires : goal.read_node-leaf-requires
read_node-leaf-requires c = free-inside c.args.slots.now c.args.at.number c.requires.ready.free

pub set_kind-requires : goal.set_kind-requires
set_kind-requires c = free-inside c.args.slots.now c.args.at.number c.requires.ready.free

pub cut_leaf-requires-clause-front : goal.cut_leaf-requires-clause-front
cut_leaf-requires-clause-front c = free-inside c.args.slots.now c.args.at.number c.requires.ready.free

pub cut_leaf-front-requires-clause-front : goal.cut_leaf-front-requires-clause-front
cut_leaf-front-requires-clause-front c = free-inside c.args.slots.now c.args.at.number c.requires.ready.free

pub set_kind-requires-in-StripAcross : goal.set_kind-requires-in-StripAcross
set_kind-requires-in-StripAcross c = free-inside c.args.slots.now c.args.at.number c.requires.ready.free

pub set_kind-requires-in-CornerAcross : goal.set_kind-requires-in-CornerAcross
set_kind-requires-in-CornerAcross c = free-inside c.args.slots.now c.args.at.number c.requires.ready.free

pub cut_leaf-requires-clause-exact : goal.cut_leaf-requires-clause-exact
cut_leaf-requires-clause-exact c =
    read-exact (nodes c.args.slots.now) c.args.at.number _ c.read_node-leaf.ensures c.requires.stands c.requires.ready.free

pub cut_leaf-requires-clause-back : goal.cut_leaf-requires-clause-back
cut_leaf-requires-clause-back c =
    placed-inside c.args.slots.now _ _ _ c.args.parts _ _ c.requires.ready c.in-StripAlong.is
    (omega (arith, same-self c.args.parts.split.number)) refl

pub set_previous-requires-clause-inside : goal.set_previous-requires-clause-inside
set_previous-requires-clause-inside c =
    after-slot c.args.slots.now c.args.at.number c.args.plan c.args.parts c.read_node-leaf.result _ c.requires.short
    c.requires.stands c.requires.ready c.read_node-leaf.ensures c.cut_leaf.auto.slots

pub cut_leaf-front-requires-clause-exact : goal.cut_leaf-front-requires-clause-exact
cut_leaf-front-requires-clause-exact c =
    read-exact (nodes c.args.slots.now) c.args.at.number _ c.read_node-leaf.ensures c.requires.stands c.requires.ready.free

pub cut_leaf-front-requires-clause-back : goal.cut_leaf-front-requires-clause-back
cut_leaf-front-requires-clause-back c =
    placed-inside c.args.slots.now _ _ _ c.args.parts _ _ c.requires.ready c.in-CornerAlong.is
    (omega (arith, same-self c.args.parts.split.number)) refl

pub set_previous-requires-in-CornerAlong-clause-inside : goal.set_previous-requires-in-CornerAlong-clause-inside
set_previous-requires-in-CornerAlong-clause-inside c =
    after-slot c.args.slots.now c.args.at.number c.args.plan c.args.parts c.read_node-leaf.result _ c.requires.short
    c.requires.stands c.requires.ready c.read_node-leaf.ensures c.cut_leaf-front.auto.slots

pub cut_inside-requires-clause-front : goal.cut_inside-requires-clause-front
cut_inside-requires-clause-front c =
    placed-inside c.args.slots.now _ _ _ c.args.parts _ _ c.requires.ready c.in-CornerAlong.is
    (omega (arith, same-self c.args.parts.granted.number))
    (c.set_previous-in-CornerAlong.auto.slots ∙ c.cut_leaf-front.auto.slots)

pub cut_inside-requires-clause-back : goal.cut_inside-requires-clause-back
cut_inside-requires-clause-back c =
    placed-inside c.args.slots.now _ _ _ c.args.parts _ _ c.requires.ready c.in-CornerAlong.is
    (omega (arith, same-self c.args.parts.leftover.number))
    (c.set_previous-in-CornerAlong.auto.slots ∙ c.cut_leaf-front.auto.slots)

pub cut_inside-requires-clause-apart : goal.cut_inside-requires-clause-apart
cut_inside-requires-clause-apart c =
    λ e. omega (
      arith,
      placed-once (nodes c.args.slots.now) _ _ _ c.args.parts c.args.parts.granted.number c.requires.ready c.in-CornerAlong.is,
      same-self c.args.parts.granted.number,
      ap (same c.args.parts.granted.number) e,
    )

pub cut_inside-requires-in-StripAcross-clause-exact : goal.cut_inside-requires-in-StripAcross-clause-exact
cut_inside-requires-in-StripAcross-clause-exact c =
    read-exact (nodes c.args.slots.now) c.args.at.number _ c.read_node-leaf.ensures c.requires.stands c.requires.ready.free

pub cut_inside-requires-in-StripAcross-clause-front : goal.cut_inside-requires-in-StripAcross-clause-front
cut_inside-requires-in-StripAcross-clause-front c =
    placed-inside c.args.slots.now _ _ _ c.args.parts _ _ c.requires.ready c.in-StripAcross.is
    (omega (arith, same-self c.args.parts.granted.number)) c.set_kind-in-StripAcross.auto.slots

pub cut_inside-requires-in-StripAcross-clause-back : goal.cut_inside-requires-in-StripAcross-clause-back
cut_inside-requires-in-StripAcross-clause-back c =
    placed-inside c.args.slots.now _ _ _ c.args.parts _ _ c.requires.ready c.in-StripAcross.is
    (omega (arith, same-self c.args.parts.split.number)) c.set_kind-in-StripAcross.auto.slots

pub cut_inside-requires-in-StripAcross-clause-apart : goal.cut_inside-requires-in-StripAcross-clause-apart
cut_inside-requires-in-StripAcross-clause-apart c =
    λ e. omega (
      arith,
      placed-once (nodes c.args.slots.now) _ _ _ c.args.parts c.args.parts.granted.number c.requires.ready c.in-StripAcross.is,
      same-self c.args.parts.granted.number,
      ap (same c.args.parts.granted.number) e,
    )

pub cut_inside-front-requires-clause-exact : goal.cut_inside-front-requires-clause-exact
cut_inside-front-requires-clause-exact c =
    read-exact (nodes c.args.slots.now) c.args.at.number _ c.read_node-leaf.ensures c.requires.stands c.requires.ready.free

pub cut_inside-front-requires-clause-front : goal.cut_inside-front-requires-clause-front
cut_inside-front-requires-clause-front c =
    placed-inside c.args.slots.now _ _ _ c.args.parts _ _ c.requires.ready c.in-CornerAcross.is
    (omega (arith, same-self c.args.parts.container.number)) c.set_kind-in-CornerAcross.auto.slots

pub cut_inside-front-requires-clause-back : goal.cut_inside-front-requires-clause-back
cut_inside-front-requires-clause-back c =
    placed-inside c.args.slots.now _ _ _ c.args.parts _ _ c.requires.ready c.in-CornerAcross.is
    (omega (arith, same-self c.args.parts.split.number)) c.set_kind-in-CornerAcross.auto.slots

pub cut_inside-front-requires-clause-apart : goal.cut_inside-front-requires-clause-apart
cut_inside-front-requires-clause-apart c =
    λ e. omega (
      arith,
      placed-once (nodes c.args.slots.now) _ _ _ c.args.parts c.args.parts.container.number c.requires.ready c.in-CornerAcross.is,
      same-self c.args.parts.container.number,
      ap (same c.args.parts.container.number) e,
    )

pub cut_inside-requires-in-CornerAcross-clause-front : goal.cut_inside-requires-in-CornerAcross-clause-front
cut_inside-requires-in-CornerAcross-clause-front c =
    placed-inside c.args.slots.now _ _ _ c.args.parts _ _ c.requires.ready c.in-CornerAcross.is
    (omega (arith, same-self c.args.parts.granted.number))
    (c.cut_inside-front.auto.slots ∙ c.set_kind-in-CornerAcross.auto.slots)

pub cut_inside-requires-in-CornerAcross-clause-back : goal.cut_inside-requires-in-CornerAcross-clause-back
cut_inside-requires-in-CornerAcross-clause-back c =
    placed-inside c.args.slots.now _ _ _ c.args.parts _ _ c.requires.ready c.in-CornerAcross.is
    (omega (arith, same-self c.args.parts.leftover.number))
    (c.cut_inside-front.auto.slots ∙ c.set_kind-in-CornerAcross.auto.slots)

pub cut_inside-requires-in-CornerAcross-clause-apart : goal.cut_inside-requires-in-CornerAcross-clause-apart
cut_inside-requires-in-CornerAcross-clause-apart c =
    λ e. omega (
      arith,
      placed-once (nodes c.args.slots.now) _ _ _ c.args.parts c.args.parts.granted.number c.requires.ready c.in-CornerAcross.is,
      same-self c.args.parts.granted.number,
      ap (same c.args.parts.granted.number) e,
    )

pub returns-in-Whole-clause-placed : goal.returns-in-Whole-clause-placed
returns-in-Whole-clause-placed c =
    let ns = nodes c.args.slots.now in
    let short : length ns < no_slot = simp length-map c.requires.short in
    let can = can-place ns c.args.at.number _ _ c.args.parts c.in-Whole.is c.requires.ready in
    placed-as ns (nodes c.set_kind.new.slots) c.args.at _ _ c.args.parts c.in-Whole.is
    (whole-by ns _ c.args.at c.args.parts short c.requires.stands can c.set_kind.ensures.written)

pub returns-in-StripAlong-clause-placed : goal.returns-in-StripAlong-clause-placed
returns-in-StripAlong-clause-placed c =
    let ns = nodes c.args.slots.now in
    let short : length ns < no_slot = simp length-map c.requires.short in
    let can = can-place ns c.args.at.number _ _ c.args.parts c.in-StripAlong.is c.requires.ready in
    let long : length (nodes c.cut_leaf.new.slots) ≡ length ns = length-map c.cut_leaf.new.slots _
    ∙ c.cut_leaf.auto.slots ∙ sym (length-map c.args.slots.now _) in
    let leaf = c.read_node-leaf.ensures in
    placed-as ns (nodes c.set_previous.new.slots) c.args.at _ _ c.args.parts c.in-StripAlong.is
    (strip_along-by ns (nodes c.cut_leaf.new.slots) _ c.args.at c.args.parts c.in-StripAlong.along short
    c.requires.stands can long
    (rw leaf at c.cut_leaf.ensures.cut) (rw leaf at c.set_previous.ensures.written))

pub returns-in-CornerAlong-clause-placed : goal.returns-in-CornerAlong-clause-placed
returns-in-CornerAlong-clause-placed c =
    let ns = nodes c.args.slots.now in
    let short : length ns < no_slot = simp length-map c.requires.short in
    let can = can-place ns c.args.at.number _ _ c.args.parts c.in-CornerAlong.is c.requires.ready in
    let long : length (nodes c.cut_leaf-front.new.slots) ≡ length ns = length-map c.cut_leaf-front.new.slots _
    ∙ c.cut_leaf-front.auto.slots ∙ sym (length-map c.args.slots.now _) in
    let leaf = c.read_node-leaf.ensures in
    placed-as ns (nodes c.cut_inside.new.slots) c.args.at _ _ c.args.parts c.in-CornerAlong.is
    (corner_along-by ns (nodes c.cut_leaf-front.new.slots) (nodes c.set_previous-in-CornerAlong.new.slots) _ c.args.at
    c.args.parts c.in-CornerAlong.along c.in-CornerAlong.across
    c.cut_leaf-front.result short c.requires.stands can long
    (rw leaf at c.cut_leaf-front.ensures.cut) (rw leaf at c.set_previous-in-CornerAlong.ensures.written)
    (rw leaf at c.cut_leaf-front.ensures.first) c.cut_inside.ensures.cut)

pub returns-in-StripAcross-clause-placed : goal.returns-in-StripAcross-clause-placed
returns-in-StripAcross-clause-placed c =
    let ns = nodes c.args.slots.now in
    let short : length ns < no_slot = simp length-map c.requires.short in
    let can = can-place ns c.args.at.number _ _ c.args.parts c.in-StripAcross.is c.requires.ready in
    let leaf = c.read_node-leaf.ensures in
    placed-as ns (nodes c.cut_inside-in-StripAcross.new.slots) c.args.at _ _ c.args.parts c.in-StripAcross.is
    (strip_across-by ns (nodes c.set_kind-in-StripAcross.new.slots) _ c.args.at c.args.parts c.in-StripAcross.across
    short c.requires.stands can
    c.set_kind-in-StripAcross.ensures.written (rw leaf at c.cut_inside-in-StripAcross.ensures.cut))

pub returns-in-CornerAcross-clause-placed : goal.returns-in-CornerAcross-clause-placed
returns-in-CornerAcross-clause-placed c =
    let ns = nodes c.args.slots.now in
    let short : length ns < no_slot = simp length-map c.requires.short in
    let can = can-place ns c.args.at.number _ _ c.args.parts c.in-CornerAcross.is c.requires.ready in
    let leaf = c.read_node-leaf.ensures in
    placed-as ns (nodes c.cut_inside-in-CornerAcross.new.slots) c.args.at _ _ c.args.parts c.in-CornerAcross.is
    (corner_across-by ns (nodes c.set_kind-in-CornerAcross.new.slots) (nodes c.cut_inside-front.new.slots) _ c.args.at
    c.args.parts c.in-CornerAcross.along c.in-CornerAcross.across
    c.cut_inside-front.result short c.requires.stands can c.set_kind-in-CornerAcross.ensures.written
    (rw leaf at c.cut_inside-front.ensures.cut) (rw leaf at c.cut_inside-front.ensures.first)
    c.cut_inside-in-CornerAcross.ensures.cut)
