use Rattle.std.proofs.Common.{rules, All, IsSome, inl, inr}
use Rattle.guillotiere.specs.Pixels.{sides_of}
use Rattle.atlas_sheet.specs.declared.ways.TheConstants.{WAYS}
use Rattle.atlas_sheet.specs.Packings.{IsNoLarger, NoneIsFound}
use Rattle.atlas_sheet.specs.Settings.{spacing_of}
use Rattle.atlas_sheet.proofs.LaidSprites.{each_weaker}
use Rattle.atlas_sheet.proofs.paging.next_page.Goals as goal

pub returns-then-not-is_whole-clause-kind : goal.returns-then-not-is_whole-clause-kind
returns-then-not-is_whole-clause-kind g c =
    let some : All IsSome c.in_ok-filled.filled.places.items → ⊥ = search (rules, c.is_whole.ensures, c.if-not-is_whole.true) in
    inr (c.in_ok-filled.ensures.size, c.in_ok-filled.ensures.best, some)

pub returns-in-Some-clause-kind : goal.returns-in-Some-clause-kind
returns-in-Some-clause-kind g c =
    let whole = rw c.in-Some.is at c.in_ok-smallest.ensures.whole in
    let larger = rw c.in-Some.is at c.in_ok-smallest.ensures.larger in
    inl (whole, larger)

pub returns-in-None-clause-kind : goal.returns-in-None-clause-kind
returns-in-None-clause-kind g c =
    let whole : All IsSome c.in_ok-filled.filled.places.items = search (rules, c.is_whole.ensures, c.if-not-is_whole.false) in
    inl (
      whole,
      each_weaker c.args.options.now c.args.left.now (NoneIsFound WAYS c.args.options.now.allowed (spacing_of c.args.options.now))
          (λ lying. IsNoLarger WAYS c.args.options.now.allowed (spacing_of c.args.options.now) lying (sides_of c.in_ok-filled.filled.size))
          (λ lying none. inl none) (rw c.in-None.is at c.in_ok-smallest.ensures.none),
    )
