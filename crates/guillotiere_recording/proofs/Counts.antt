-- Counts over lists that are mapped, filtered or permuted.
use Rattle.std.proofs.Common.{◌≡◌, ◌+◌, Bool, true, false, cond, ◌&&◌, List, [], ◌∷◌, map, filter, zero-add, refl, ap, ap₂, sym, ◌∙◌}
use Rattle.std.proofs.Common.{Contains}
use Rattle.std.specs.List.{count_by}
use Rattle.guillotiere.proofs.ListLemmas.ListCounts.{count_by-cons}
use Rattle.guillotiere.proofs.TreeLemmas.TreeBasics.{one_if}
use Rattle.guillotiere.proofs.TreeLemmas.TreeIds.{Contains-first, Contains-later}

pub count_map : {X Y : Type 0} (f : X → Y) (p : Y → Bool) (xs : List X)
    → count_by p (map f xs) ≡ count_by (λ x. p (f x)) xs
count_map f p [] = refl
count_map f p (x ∷ xs) =
    count_by-cons p (f x) (map f xs) ∙ ap (λ k. one_if (p (f x)) + k) (count_map f p xs) ∙ sym (count_by-cons (λ y. p (f y)) x xs)

pub count_filter : {X : Type 0} (q p : X → Bool) (xs : List X)
    → count_by p (filter q xs) ≡ count_by (λ x. q x && p x) xs
count_filter q p [] = refl
count_filter q p (x ∷ xs) = by_test (q x) refl (count_filter q p xs) ∙ sym (count_by-cons (λ y. q y && p y) x xs)
  where
    by_test : (b : Bool) → q x ≡ b → count_by p (filter q xs) ≡ count_by (λ y. q y && p y) xs
        → count_by p (cond (q x) (x ∷ filter q xs) (filter q xs)) ≡ one_if (q x && p x) + count_by (λ y. q y && p y) xs
    by_test true is later =
        ap (λ b. count_by p (cond b (x ∷ filter q xs) (filter q xs))) is ∙ count_by-cons p x (filter q xs)
        ∙ ap₂ (λ b k. one_if (b && p x) + k) (sym is) later
    by_test false is later =
        ap (λ b. count_by p (cond b (x ∷ filter q xs) (filter q xs))) is ∙ later ∙ sym (zero-add _)
        ∙ ap (λ b. one_if (b && p x) + count_by (λ y. q y && p y) xs) (sym is)

-- Tests that agree on a list's elements count alike.
pub count_alike : {X : Type 0} (p q : X → Bool) (xs : List X) → ((x : X) → Contains xs x → p x ≡ q x)
    → count_by p xs ≡ count_by q xs
count_alike p q [] h = refl
count_alike p q (x ∷ xs) h =
    count_by-cons p x xs
    ∙ ap₂ (λ b k. one_if b + k) (h x (Contains-first x xs)) (count_alike p q xs (λ y at. h y (Contains-later x xs y at)))
    ∙ sym (count_by-cons q x xs)

pub map_alike : {X Y : Type 0} (f g : X → Y) (xs : List X) → ((x : X) → Contains xs x → f x ≡ g x) → map f xs ≡ map g xs
map_alike f g [] h = refl
map_alike f g (x ∷ xs) h =
    ap₂ (λ y ys. y ∷ ys) (h x (Contains-first x xs)) (map_alike f g xs (λ y at. h y (Contains-later x xs y at)))
