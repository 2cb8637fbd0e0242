use Rattle.std.proofs.Common.{[], ◌∷◌, ◌++◌, refl, rules}
use Rattle.std.proofs.lemmas.Fn.{FoldsTo-push}
use Rattle.std.proofs.lemmas.List.Elements.{All-cons, All-nil}
use Rattle.guillotiere.specs.Pixels.{sides_of}
use Rattle.atlas_sheet.specs.Lying.{HoldsAll}
use Rattle.atlas_sheet.specs.Packings.{IsNoLarger}
use Rattle.atlas_sheet.specs.Settings.{spacing_of}
use Rattle.atlas_sheet.specs.declared.ways.TheConstants.{WAYS}
use Rattle.atlas_sheet.proofs.Arrangements.{lying_packable, no_larger, own, rebased}
use Rattle.atlas_sheet.proofs.FallingSizes.{holds_all, holds_lying}
use Rattle.atlas_sheet.proofs.LaidSprites.{each_weaker}
use Rattle.atlas_sheet.proofs.packing.packed.Goals as goal

pub descend-requires-clause-good : goal.descend-requires-clause-good
descend-requires-clause-good g c = record {
  usable = c.requires.good.usable;
  placing = lying_packable (rw c.in-Some.is at c.in_ok-found.ensures.arranged) c.requires.good.placing;
}

pub descend-requires-clause-arranged : goal.descend-requires-clause-arranged
descend-requires-clause-arranged g c = own (rw c.in-Some.is at c.in_ok-found.ensures.arranged)

pub returns-clause-arranged : goal.returns-clause-arranged
returns-clause-arranged g c =
    let arranged = rw c.in-Some.is at c.in_ok-found.ensures.arranged in
    rebased c.args.sprites.now c.in-Some.first.lying.items arranged.lies c.in_ok-best.ensures.arranged

pub returns-clause-larger : goal.returns-clause-larger
returns-clause-larger g c =
    each_weaker c.args.options.now c.args.sprites.now
    (λ lying. IsNoLarger WAYS c.args.options.now.allowed (spacing_of c.args.options.now) lying (sides_of c.in-Some.first.size))
    (λ lying. IsNoLarger WAYS c.args.options.now.allowed (spacing_of c.args.options.now) lying (sides_of c.in_ok-best.best.size))
    (λ lying is. no_larger WAYS c.args.options.now.allowed (spacing_of c.args.options.now) lying (sides_of c.in-Some.first.size)
    (sides_of c.in_ok-best.best.size) c.in_ok-best.ensures.smaller is)
    (rw c.in-Some.is at c.in_ok-found.ensures.larger)

pub returns-then-options-eq0-clause-told : goal.returns-then-options-eq0-clause-told
returns-then-options-eq0-clause-told g c = (
  [],
  c.told.new.self,
  FoldsTo-push (λ p size q. goal.F-step g p size tt q) c.args.told [] c.args.told c.in-Some.first.size c.told.new.self refl
      (search (rules, c.told.ensures)),
  tt,
  All-cons (HoldsAll c.args.options.now c.args.sprites.now) c.in-Some.first.size []
      (holds_all c.args.options.now c.args.sprites.now c.in-Some.first (rw c.in-Some.is at c.in_ok-found.ensures.arranged)
      (rw c.in-Some.is at c.in_ok-found.ensures.allowed) (rw c.in-Some.is at c.in_ok-found.ensures.whole))
      (All-nil (HoldsAll c.args.options.now c.args.sprites.now)),
)

pub returns-clause-told : goal.returns-clause-told
returns-clause-told g c =
    let told = c.in_ok-best.ensures.told in
    let arranged = rw c.in-Some.is at c.in_ok-found.ensures.arranged in (
      told.0,
      told.1,
      told.2,
      told.3,
      holds_lying c.args.options.now c.args.sprites.now c.in-Some.first.lying.items arranged.lies (told.0 ++ c.in_ok-best.best.size ∷ [])
          told.4,
    )
