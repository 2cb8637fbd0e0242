use Rattle.std.proofs.Common.{◌≡◌, ◌<◌, ◌∙◌, [], ◌∷◌, ◌++◌, All, IsSome, of_calls, refl, rules, arith, subst, sym}
use Rattle.std.proofs.lemmas.Fn.{FoldsTo-push}
use Rattle.std.proofs.lemmas.List.Elements.{All-cons, All-nil, All-push}
use Rattle.guillotiere.specs.declared.Size.{Size}
use Rattle.guillotiere.specs.Pixels.{sides_of}
use Rattle.atlas_sheet.specs.Allowances.{IsAllowed, pixels}
use Rattle.atlas_sheet.specs.Lying.{IsArranged, HoldsAll}
use Rattle.atlas_sheet.proofs.Arrangements.{lying_packable, own, rebased}
use Rattle.atlas_sheet.proofs.FallingSizes.{falling_push, holds_all}
use Rattle.atlas_sheet.proofs.packing.descend.Goals as goal

pub asked_in-requires-clause-good : goal.asked_in-requires-clause-good
asked_in-requires-clause-good g c =
    rw c.deref.ensures.value (lying_packable c.loop-tries.invariant.arranged c.requires.good.placing)

pub improve-requires-clause-good : goal.improve-requires-clause-good
improve-requires-clause-good g c =
    lying_packable (rw c.deref.ensures.value at c.in_ok-moved.ensures.arranged)
    (lying_packable c.loop-tries.invariant.arranged c.requires.good.placing)

pub improve-requires-clause-arranged : goal.improve-requires-clause-arranged
improve-requires-clause-arranged g c = own c.in_ok-moved.ensures.arranged

pub loop-tries-init : goal.loop-tries-init
loop-tries-init g c = record {
  arranged = c.requires.arranged;
  allowed = c.requires.allowed;
  whole = c.requires.whole;
  callable = search of_calls;
  told = (
    [],
    FoldsTo-push (λ p size q. goal.F-step g p size tt q) c.args.told [] c.args.told c.args.first.size _ refl
        (search (rules, c.told.ensures)),
    tt,
    All-cons (HoldsAll c.args.options.now c.args.first.lying.items) c.args.first.size []
        (holds_all c.args.options.now c.args.first.lying.items c.args.first c.requires.arranged c.requires.allowed c.requires.whole)
        (All-nil (HoldsAll c.args.options.now c.args.first.lying.items)),
  );
  smaller = omega arith;
}

pub loop-tries-preserved : goal.loop-tries-preserved
loop-tries-preserved g c =
    let before = c.loop-tries.invariant in
    let best = c.loop-tries.best in
    let f = c.in_ok-found.found in
    let moved = rw c.deref.ensures.value at c.in_ok-moved.ensures.arranged in
    let size : f.size ≡ c.in-Some.size = c.in_ok-found.ensures.size ∙ c.in_ok-moved.ensures.size in
    let step = c.in-Some.ensures.smaller in
    let fewer : pixels (sides_of f.size) < pixels (sides_of best.size) =
    subst (λ (s : Size). pixels (sides_of s) < pixels (sides_of best.size)) (sym size) step.1 in
    let arranged : IsArranged c.args.options.now c.args.first.lying.items f =
    rebased c.args.first.lying.items best.lying.items before.arranged.lies
    (rebased best.lying.items c.in_ok-moved.moved.lying.items moved.lies c.in_ok-found.ensures.arranged) in
    let allowed : IsAllowed c.args.options.now.allowed (sides_of f.size) =
    subst (λ (s : Size). IsAllowed c.args.options.now.allowed (sides_of s)) (sym size) step.0 in
    let whole : All IsSome f.places.items = search (rules, c.is_whole.ensures) in
    record {
      arranged = arranged;
      allowed = allowed;
      whole = whole;
      callable = search of_calls;
      told = (
        before.told.0 ++ best.size ∷ [],
        FoldsTo-push _ _ (before.told.0 ++ best.size ∷ []) _ f.size _ before.told.1 (search (rules, c.told-in-loop-tries.ensures)),
        falling_push before.told.0 best.size f.size before.told.2 fewer,
        All-push (HoldsAll c.args.options.now c.args.first.lying.items) (before.told.0 ++ best.size ∷ []) f.size before.told.3
            (holds_all c.args.options.now c.args.first.lying.items f arranged allowed whole),
      );
      smaller = omega (arith, fewer, before.smaller);
    }
