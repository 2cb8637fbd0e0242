use Rattle.std.proofs.Common.{rules, ◌≡◌, ◌∙◌, Option, Some, ap, sym}
use Rattle.guillotiere.specs.declared.Size.{Size}
use Rattle.guillotiere.specs.Pixels.{sides_of}
use Rattle.guillotiere.specs.Simple.{SimpleAnswer, SimpleStep}
use Rattle.guillotiere.specs.Simple.SimpleAtlasCall.{Allocate}
use Rattle.guillotiere.specs.SimpleStored.{SimpleValue, simple_state_of}
use Rattle.guillotiere_c.specs.declared.simple_handle.SimpleHandle.{SimpleHandle}
use Rattle.guillotiere_c.specs.SimpleCalls.{IsHeldSimpleStep}
use Rattle.guillotiere_c.proofs.simple.guillotiere_simple_allocate.Goals as goal

-- The step of what a handle held, by equal names of all that it speaks of.
held-step : (kept new : Option SimpleValue) (held v w : SimpleValue) (size asked : Size) (said answer : SimpleAnswer)
    → kept ≡ Some held → held ≡ v → new ≡ Some w → size ≡ asked → said ≡ answer
    → SimpleStep (simple_state_of v) (Allocate (sides_of asked)) answer (simple_state_of w)
    → IsHeldSimpleStep kept (Allocate (sides_of size)) said new
held-step kept new held v w size asked said answer k h n a s step = rw k (rw n (rw s (rw a (rw h step))))

pub returns-in-Err-clause-step : goal.returns-in-Err-clause-step
returns-in-Err-clause-step c some =
    held-step _ _ _ _ _ (record { width = c.args.width; height = c.args.height }) c.size2.result _ _
    (sym (ap (λ (h : SimpleHandle). h.kept) c.holds.ensures.0) ∙ c.take-held.ensures.taken) (sym c.deref_mut.ensures.value)
    c.put.ensures.put (search rules) (c.status_of.ensures.answer c.args.granted.now) c.in-Err.ensures.step
