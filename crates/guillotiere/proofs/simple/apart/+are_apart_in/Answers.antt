use Rattle.std.proofs.Common.{true, false, List, All, sym, subst, ◌∙◌, arith}
use Rattle.std.proofs.lemmas.List.Elements.{All-filter}
use Rattle.std.proofs.lemmas.Result.{IfOk-weaker}
use Rattle.atlas_model.specs.declared.geometry.Rectangle.{Rectangle}
use Rattle.atlas_search.specs.Rectangles.{IsSolid}
use Rattle.guillotiere.specs.Apart.{TellsApart, is_part}
use Rattle.guillotiere.proofs.SimpleLemmas.ApartTold.{halved-first, halved-first-less, halved-second, halved-second-less}
use Rattle.guillotiere.proofs.SimpleLemmas.ApartTold.{halved-told-first, halved-told-second, tells-few, tells-one, tells-stacked}
use Rattle.guillotiere.proofs.simple.apart.+are_apart_in.Goals as goal

pub returns-then-boxes-lt2 : goal.returns-then-boxes-lt2
returns-then-boxes-lt2 g t c = tells-few c.args.slab.low c.args.slab.high c.args.boxes.now c.if-boxes-lt2.true

pub returns-then-not-are_stacked : goal.returns-then-not-are_stacked
returns-then-not-are_stacked g t c =
    tells-stacked c.args.slab.low c.args.slab.high c.args.boxes.now (c.are_stacked.ensures.crossed c.if-not-are_stacked.true)

pub returns-then-is_one : goal.returns-then-is_one
returns-then-is_one g t c =
    tells-one c.args.slab.low c.args.slab.high c.args.boxes.now c.requires.slab (c.are_stacked.ensures.stacked c.if-not-are_stacked.false)
    (c.is_one.ensures.0 c.if-is_one.true)

pub are_apart_in-requires : goal.are_apart_in-requires
are_apart_in-requires g t c κs within =
    let low = c.args.slab.low in
    let high = c.args.slab.high in
    let rs = c.args.boxes.now in
    let a = c.halve-halves.result.first in
    let b = c.halve-halves.result.second in
    let h = c.halve-halves.ensures in
    let solid = All-filter (is_part low high a.low a.high) IsSolid rs c.requires.solid in (
      omega (arith, c.decreases, halved-first-less low high rs a.low a.high b.low b.high h),
      (
        within,
        (
          halved-first low high rs a.low a.high b.low b.high h c.requires.slab,
          subst (All IsSolid) (sym (c.deref.ensures.value ∙ c.in_ok-left.ensures)) solid,
        ),
      ),
    )

pub returns-then-not-branch : goal.returns-then-not-branch
returns-then-not-branch g t c =
    let low = c.args.slab.low in
    let high = c.args.slab.high in
    let rs = c.args.boxes.now in
    let a = c.halve-halves.result.first in
    let b = c.halve-halves.result.second in
    halved-told-first low high rs a.low a.high b.low b.high c.halve-halves.ensures
    (subst (λ (l : List Rectangle). TellsApart a.low a.high l false) (c.deref.ensures.value ∙ c.in_ok-left.ensures)
    (subst (TellsApart a.low a.high c.deref.result.now) c.if-not-branch.true c.in_ok-are_apart_in.ensures))

pub are_apart_in-requires-2 : goal.are_apart_in-requires-2
are_apart_in-requires-2 g t c κs within =
    let low = c.args.slab.low in
    let high = c.args.slab.high in
    let rs = c.args.boxes.now in
    let a = c.halve-halves.result.first in
    let b = c.halve-halves.result.second in
    let h = c.halve-halves.ensures in
    let solid = All-filter (is_part low high b.low b.high) IsSolid rs c.requires.solid in (
      omega (arith, c.decreases, halved-second-less low high rs a.low a.high b.low b.high h),
      (
        within,
        (
          halved-second low high rs a.low a.high b.low b.high h c.requires.slab,
          subst (All IsSolid) (sym (c.deref-2.ensures.value ∙ c.in_ok-right.ensures)) solid,
        ),
      ),
    )

pub returns : goal.returns
returns g t c =
    let low = c.args.slab.low in
    let high = c.args.slab.high in
    let rs = c.args.boxes.now in
    let a = c.halve-halves.result.first in
    let b = c.halve-halves.result.second in
    let left = subst (λ (l : List Rectangle). TellsApart a.low a.high l true) (c.deref.ensures.value ∙ c.in_ok-left.ensures)
    (subst (TellsApart a.low a.high c.deref.result.now) c.if-not-branch.false c.in_ok-are_apart_in.ensures) in
    IfOk-weaker c.are_apart_in-2.result (TellsApart b.low b.high c.deref-2.result.now) (TellsApart low high rs)
    (λ answer told. halved-told-second low high rs a.low a.high b.low b.high c.halve-halves.ensures
    (c.are_stacked.ensures.stacked c.if-not-are_stacked.false) left answer
    (subst (λ (l : List Rectangle). TellsApart b.low b.high l answer) (c.deref-2.ensures.value ∙ c.in_ok-right.ensures) told))
    c.are_apart_in-2.ensures
