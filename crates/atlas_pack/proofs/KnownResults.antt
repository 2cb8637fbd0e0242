-- What is known of a sheet by several clauses.
use Rattle.std.proofs.Common.{Option, Some, None, Result, Ok, Err, IfOk, IfSome}

pub all_known : {S E Z : Type 0} (P Q R T W : S → Type 0) (r : Result (Option S) E) → IfOk r (λ f. IfSome f P)
    → IfOk r (λ f. IfSome f Q)
    → IfOk r (λ f. IfSome f R) → (Z → IfOk r (λ f. IfSome f T)) → ((s : S) → P s → Q s → R s → (Z → T s) → W s)
    → IfOk r (λ f. IfSome f W)
all_known P Q R T W (Ok (Some s)) p q r t make = make s p q r t
all_known P Q R T W (Ok None) p q r t make = tt
all_known P Q R T W (Err e) p q r t make = tt

pub known_together : {S E : Type 0} (P Q : S → Type 0) (r : Result (Option S) E) → IfOk r (λ f. IfSome f P)
    → IfOk r (λ f. IfSome f Q) → IfOk r (λ f. IfSome f (λ s. P s × Q s))
known_together P Q (Ok (Some s)) p q = (p, q)
known_together P Q (Ok None) p q = tt
known_together P Q (Err e) p q = tt
