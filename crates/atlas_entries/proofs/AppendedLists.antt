-- What holds of each of two lists, of one after the other, and without what stands between them.
use Rattle.std.proofs.Common.{◌≡◌, List, [], ◌∷◌, ◌++◌, refl, ap}
use Rattle.std.specs.List.{AllByRecursion}

module _ {X : Type 0} (P : X → Type 0) where
  pub each-append : (xs ys : List X) → AllByRecursion P xs → AllByRecursion P ys → AllByRecursion P (xs ++ ys)
  each-append [] ys h k = k
  each-append (x ∷ xs) ys h k = (h.0, each-append xs ys h.1 k)

  pub each-left : (xs ys : List X) → AllByRecursion P (xs ++ ys) → AllByRecursion P xs
  each-left [] ys h = tt
  each-left (x ∷ xs) ys h = (h.0, each-left xs ys h.1)

  pub each-right : (xs ys : List X) → AllByRecursion P (xs ++ ys) → AllByRecursion P ys
  each-right [] ys h = h
  each-right (x ∷ xs) ys h = each-right xs ys h.1

  pub each-without : (xs : List X) (e : X) (ys : List X) → AllByRecursion P (xs ++ e ∷ ys) → AllByRecursion P (xs ++ ys)
  each-without xs e ys h = each-append xs ys (each-left xs (e ∷ ys) h) (each-right xs (e ∷ ys) h).1

  pub each-here : (xs : List X) (e : X) (ys : List X) → AllByRecursion P (xs ++ e ∷ ys) → P e
  each-here xs e ys h = (each-right xs (e ∷ ys) h).0

pub append-none : {X : Type 0} (xs : List X) → xs ++ [] ≡ xs
append-none [] = refl
append-none (x ∷ xs) = ap (λ ys. x ∷ ys) (append-none xs)
