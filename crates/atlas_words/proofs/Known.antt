-- Writes and reads, one after another, of devices that may tell their bytes.
use Rattle.std.proofs.Common.{◌≡◌, ℕ, ◌-◌, ◌≤◌, List, ◌++◌, length, take, drop, Some, None, Option, refl, sym, ap, ◌∙◌, append_assoc}
use Rattle.std.proofs.Common.{append-nil, subst, [], arith}
use Rattle.std.proofs.lemmas.List.{take-append-drop, take_all, length-drop}
use Rattle.std.specs.Io.KnownBytes.{Appends, Consumes, IsAtEnd}
use Rattle.atlas_words.specs.Devices.{KeepsOrHides, ReadsBeginning, WritesBeginning, HoldsBytes}

pub Appends_none : (known : Option (List ℕ)) → Appends known known []
Appends_none None = tt
Appends_none (Some o) = sym (append-nil o)

pub Consumes_none : (known : Option (List ℕ)) → Consumes known known []
Consumes_none None = tt
Consumes_none (Some o) = refl

pub Appends_twice : (old mid new : Option (List ℕ)) (xs ys : List ℕ) → Appends old mid xs → Appends mid new ys
    → Appends old new (xs ++ ys)
Appends_twice None mid new xs ys a b = tt
Appends_twice (Some o) None new xs ys a b = absurd a
Appends_twice (Some o) (Some m) None xs ys a b = absurd b
Appends_twice (Some o) (Some m) (Some n) xs ys a b = rw (b, a) (append_assoc o xs ys)

pub Consumes_twice : (old mid new : Option (List ℕ)) (xs ys : List ℕ) → Consumes old mid xs → Consumes mid new ys
    → Consumes old new (xs ++ ys)
Consumes_twice None mid new xs ys a b = tt
Consumes_twice (Some o) None new xs ys a b = absurd a
Consumes_twice (Some o) (Some m) None xs ys a b = absurd b
Consumes_twice (Some o) (Some m) (Some n) xs ys a b = rw (a, b) (sym (append_assoc xs ys n))

-- Some text was written, and then a beginning of more.
pub WritesBeginning_after : (old middle new : Option (List ℕ)) (s t : List ℕ) → Appends old middle s
    → WritesBeginning middle new t → WritesBeginning old new (s ++ t)
WritesBeginning_after old middle None s t a b = tt
WritesBeginning_after old middle (Some ys) s t a b =
    (s ++ b.0, b.1, ap (λ u. s ++ u) b.2 ∙ sym (append_assoc s b.0 b.1), Appends_twice old middle (Some ys) s b.0 a b.3)

-- One more write of the loop.
pub write_step : (old mid new : Option (List ℕ)) (bytes done rest : List ℕ) (n : ℕ) → bytes ≡ done ++ rest
    → Appends old mid done → n ≤ length rest → Appends mid new (take n rest)
    → (x : List ℕ) × (bytes ≡ x ++ take (length rest - n) (drop n rest)) × Appends old new x
write_step old mid new bytes done rest n e a low b =
    let left : take (length rest - n) (drop n rest) ≡ drop n rest = take_all (length rest - n) (drop n rest) (grind (arith, length-drop)) in
    let whole : (done ++ take n rest) ++ take (length rest - n) (drop n rest) ≡ done ++ rest =
    ap (λ ys. (done ++ take n rest) ++ ys) left ∙ append_assoc done (take n rest) (drop n rest) ∙
    ap (λ ys. done ++ ys) (take-append-drop n rest) in
    (done ++ take n rest, e ∙ sym whole, Appends_twice old mid new done (take n rest) a b)

-- A read of no byte.
pub Consumes_nothing : (old mid new : Option (List ℕ)) (xs : List ℕ) (n : ℕ) (buffer : List ℕ) → n ≡ 0
    → Consumes old mid xs → Consumes mid new (take n buffer) → Consumes old new xs
Consumes_nothing old mid new xs n buffer e a b =
    let P : List ℕ → Type 0 = λ bs. Consumes old new bs in
    let Q : ℕ → Type 0 = λ i. Consumes mid new (take i buffer) in
    subst P (append-nil xs) (Consumes_twice old mid new xs [] a (subst Q e b))

-- A device that fails after these bytes.
pub ReadsBeginning_kept : (old mid new : Option (List ℕ)) (xs : List ℕ) → Consumes old mid xs → KeepsOrHides mid new
    → ReadsBeginning old new xs
ReadsBeginning_kept None mid new xs a k = tt
ReadsBeginning_kept (Some o) None new xs a k = absurd a
ReadsBeginning_kept (Some o) (Some m) None xs a k = (m, a)
ReadsBeginning_kept (Some o) (Some m) (Some n) xs a k = a ∙ ap (λ t. xs ++ t) (sym k)

-- What was read up to the end is all.
pub Holds_at_end : (old new : Option (List ℕ)) (xs : List ℕ) → Consumes old new xs → IsAtEnd new → HoldsBytes old xs
Holds_at_end None new xs a e = tt
Holds_at_end (Some o) None xs a e = absurd a
Holds_at_end (Some o) (Some n) xs a e = a ∙ ap (λ t. xs ++ t) e ∙ append-nil xs

-- What was read is a beginning of all.
pub Holds_with_rest : (old new : Option (List ℕ)) (xs : List ℕ) → Consumes old new xs
    → (later : List ℕ) × HoldsBytes old (xs ++ later)
Holds_with_rest None new xs a = ([], tt)
Holds_with_rest (Some o) None xs a = absurd a
Holds_with_rest (Some o) (Some n) xs a = (n, a)
