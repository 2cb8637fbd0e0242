-- Values that may be absent.
use Rattle.std.proofs.Common.{◌≡◌, true, false, Option, Some, None, IfSome, IfNone, is_some}

-- Two facts about a value make a third.
pub both : {T : Type 0} (o : Option T) {P Q R : T → Type 0} → IfSome o P → IfSome o Q → ((x : T) → P x → Q x → R x)
    → IfSome o R
both None p q make = tt
both (Some x) p q make = make x p q

pub at_none : {T : Type 0} (o : Option T) {P : Type 0} → is_some o ≡ false → IfNone o P → P
at_none None e p = p
at_none (Some x) e p = cc

pub not_none : {T : Type 0} (o : Option T) (P : Type 0) → is_some o ≡ true → IfNone o P
not_none None P e = cc
not_none (Some x) P e = tt

-- What follows where nothing is found.
pub none_then : {T P Q : Type 0} (found : Option T) → IfNone found P → (P → Q) → IfNone found Q
none_then None is follows = follows is
none_then (Some x) is follows = tt
