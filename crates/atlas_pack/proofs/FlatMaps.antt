-- Pieces of text, one after another.
use Rattle.std.proofs.Common.{◌≡◌, ℕ, zero, suc, ◌+◌, ◌<◌, List, [], ◌∷◌, ◌++◌, flat_map, get_or, length, take, sym, ap, ◌∙◌, append_assoc}
use Rattle.std.proofs.Common.{arith}
use Rattle.std.proofs.lemmas.List.{append-nil}

more : {X : Type 0} (f : X → List ℕ) (xs : List X) (i : ℕ) (x : X) → i < length xs → x ≡ get_or xs i x
    → flat_map f (take (suc i) xs) ≡ flat_map f (take i xs) ++ f x
more f [] i x low at = absurd (omega arith)
more f (y ∷ ys) zero x low at = append-nil (f y) ∙ ap f (sym at)
more f (y ∷ ys) (suc i) x low at =
    ap (λ (t : List ℕ). f y ++ t) (more f ys i x (omega arith) at) ∙ sym (append_assoc (f y) (flat_map f (take i ys)) (f x))

-- One piece more.
pub flat_more : {X : Type 0} (f : X → List ℕ) (xs : List X) (i : ℕ) (x : X) → i < length xs → x ≡ get_or xs i x
    → flat_map f (take (i + 1) xs) ≡ flat_map f (take i xs) ++ f x
flat_more f xs i x low at = let next : i + 1 ≡ suc i = omega arith in ap (λ (n : ℕ). flat_map f (take n xs)) next ∙ more f xs i x low at
