-- What is said of the result of a call that failed.
use Rattle.std.proofs.Common.{◌≡◌, Result, Ok, Err, IfOk, IfErr, IsErrAnd, IsOkUnless, ◌∙◌}

pub no_value : {T E : Type 0} (r : Result T E) (P : T → Type 0) (Q : E → Type 0) → IsErrAnd r Q → IfOk r P
no_value (Ok x) P Q failed = absurd failed
no_value (Err e) P Q failed = tt

pub its_error : {T E : Type 0} (r : Result T E) (Q : E → Type 0) → IsErrAnd r Q → IfErr r Q
its_error (Ok x) Q failed = tt
its_error (Err e) Q failed = failed

pub same_error : {T E : Type 0} (r : Result T E) (d e : E) → IsErrAnd r (λ x. x ≡ d) → d ≡ e → IsOkUnless r e
same_error (Ok x) d e failed same = tt
same_error (Err x) d e failed same = failed ∙ same
