use Rattle.std.proofs.Common.{◌≡◌, ℕ, ◌<◌, get_or}
use Rattle.guillotiere.specs.declared.simple.boxes.FreeBox.{FreeBox}
use Rattle.guillotiere.proofs.simple.is_listed.Given as goal

abbrev pub invariant-loop-entry : goal.invariant-loop-entry
invariant-loop-entry l = (k : ℕ) (d : FreeBox) → k < l.entry-index → (get_or l.entries k d).area ≡ l.rectangle → ⊥
