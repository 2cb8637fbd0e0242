use Rattle.std.proofs.Common.{◌↔◌, ℤ, List, All, map, pos, sym, subst}
use Rattle.std.specs.Prelude.{IsTrue}
use Rattle.std.proofs.lemmas.Result.{IfOk-weaker}
use Rattle.atlas_model.specs.declared.geometry.Rectangle.{Rectangle}
use Rattle.atlas_model.specs.Boxes.{AreDisjoint}
use Rattle.atlas_model.specs.Pixels.{box_of}
use Rattle.atlas_search.specs.Rectangles.{IsSolid}
use Rattle.guillotiere.specs.Apart.{IsSlab, TellsApart}
use Rattle.guillotiere.proofs.SimpleLemmas.ApartWithin.{sorted-solid, tells-disjoint, whole-slab}
use Rattle.guillotiere.proofs.simple.apart.are_disjoint.Goals as goal

pub are_apart_in-requires-clause-slab : goal.are_apart_in-requires-clause-slab
are_apart_in-requires-clause-slab g c =
    subst (λ (z : ℤ). IsSlab z c.whole.result.high) (sym c.whole.ensures.low)
    (subst (IsSlab (pos 0)) (sym c.whole.ensures.high)
    (whole-slab c.args.boxes.now c.in_ok-sorted.sorted.items c.args.size c.in_ok-sorted.ensures.same c.requires.within c.requires.size))

pub are_apart_in-requires-clause-solid : goal.are_apart_in-requires-clause-solid
are_apart_in-requires-clause-solid g c =
    subst (All IsSolid) (sym c.deref.ensures.value)
    (sorted-solid c.args.boxes.now c.in_ok-sorted.sorted.items c.args.size c.in_ok-sorted.ensures.same c.requires.within c.requires.size)

pub returns : goal.returns
returns g c =
    let low = c.whole.result.low in
    let high = c.whole.result.high in
    IfOk-weaker c.are_apart_in.result (TellsApart low high c.deref.result.now)
    (λ apart. IsTrue apart ↔ AreDisjoint (map box_of c.args.boxes.now))
    (λ answer told. tells-disjoint c.args.boxes.now c.in_ok-sorted.sorted.items c.args.size c.in_ok-sorted.ensures.same c.requires.within
    c.requires.size c.in_ok-sorted.ensures.order answer
    (subst (λ (z : ℤ). TellsApart z c.args.size.width c.in_ok-sorted.sorted.items answer) c.whole.ensures.low
    (subst (λ (z : ℤ). TellsApart low z c.in_ok-sorted.sorted.items answer) c.whole.ensures.high
    (subst (λ (l : List Rectangle). TellsApart low high l answer) c.deref.ensures.value told)))) c.are_apart_in.ensures
