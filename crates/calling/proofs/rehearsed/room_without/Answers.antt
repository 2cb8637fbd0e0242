use Rattle.std.proofs.Common.{ℕ, false, refl}
use Rattle.calling.proofs.rehearsed.room_without.Goals as goal

-- The marks show nothing when the rehearsal begins.
pub returns-then-fits-clause-free : goal.returns-then-fits-clause-free
returns-then-fits-clause-free g c =
    let none = rw c.deref.ensures.value at c.prove_none_shown.ensures.shown in
    c.rehearse-area.ensures.free (λ (_ : ℕ). false) (rw c.deref_mut.ensures.value none) refl
