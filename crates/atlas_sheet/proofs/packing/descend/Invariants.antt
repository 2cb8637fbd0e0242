use Rattle.std.proofs.Common.{◌≤◌, List, [], ◌∷◌, ◌++◌, All, IsSome}
use Rattle.std.specs.List.{FoldsTo}
use Rattle.guillotiere.specs.declared.Size.{Size}
use Rattle.guillotiere.specs.Pixels.{sides_of}
use Rattle.atlas_sheet.specs.Allowances.{IsAllowed, pixels}
use Rattle.atlas_sheet.specs.Lying.{IsArranged, HoldsAll}
use Rattle.atlas_sheet.specs.Packings.{AreFalling}
use Rattle.atlas_sheet.proofs.packing.descend.Given as goal

abbrev pub invariant-loop-tries : goal.invariant-loop-tries
invariant-loop-tries g l = record {
  arranged : IsArranged l.options l.fn.first.lying.items l.best;
  allowed : IsAllowed l.options.allowed (sides_of l.best.size);
  whole : All IsSome l.best.places.items;
  callable : goal.F-IsAlwaysCallable g l.told;
  told : (before : List Size)
      × FoldsTo (λ p size q. goal.F-step g p size tt q) l.fn.told (before ++ l.best.size ∷ []) l.told
      × AreFalling (before ++ l.best.size ∷ [])
      × All (HoldsAll l.options l.fn.first.lying.items) (before ++ l.best.size ∷ []);
  smaller : pixels (sides_of l.best.size) ≤ pixels (sides_of l.fn.first.size);
}

abbrev pub decreases-loop-tries : goal.decreases-loop-tries
decreases-loop-tries g l = l.tries
