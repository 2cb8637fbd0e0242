-- Sprites that may lie turned, and one that is turned.
use Rattle.std.proofs.Common.{◌≡◌, ◌≢◌, ◌==◌, ◌+◌, ◌-◌, ◌<◌, ◌≤◌, ℕ, zero, suc, Bool, true, false, cond, eqb, inl, inr, List, [], ◌∷◌, ◌++◌}
use Rattle.std.proofs.Common.{length, map, take, drop, set, get_or, All, IsPermutation, refl, ap, sym, subst, ◌∙◌, arith}
use Rattle.std.specs.List.{AllZip, count_by, enumerate_from}
use Rattle.std.proofs.Math.Seq.{take-append_seam}
use Rattle.std.proofs.lemmas.Bool.{eqb-true, eq-eqb}
use Rattle.std.proofs.lemmas.List.Elements.{All-nil, All-cons, All-head, All-tail, All-get_or, All-weaker}
use Rattle.std.proofs.lemmas.List.Sorted.{All-permutation, IsPermutation-map}
use Rattle.guillotiere.specs.declared.Size.{Size}
use Rattle.guillotiere.proofs.TreeLemmas.TreeBasics.{one_if}
use Rattle.guillotiere.proofs.ListLemmas.ListCounts.{count_by-cons}
use Rattle.atlas_sheet.specs.declared.options.Spacing.{Spacing}
use Rattle.atlas_sheet.specs.Lying.{MayLie, turned_size}
use Rattle.atlas_sheet.specs.Sheets.{IsPackable}
use Rattle.atlas_sheet.proofs.FoundPlaces.{no_sprite, others}
use Rattle.atlas_sheet.proofs.NumberedSprites.{order_once}

-- What a slice of a whole list was changed to.
pub written : {X : Type 0} (n : ℕ) (new old : List X) → n ≡ length new → take n (new ++ drop (length new) old) ≡ new
written n new old is = ap (λ k. take k (new ++ drop (length new) old)) is ∙ take-append_seam new (drop (length new) old)

pub lie_as_given : (turn : Bool) (sprites : List Size) → AllZip (MayLie turn) sprites sprites
lie_as_given turn [] = tt
lie_as_given turn (s ∷ sprites) = (inl refl, lie_as_given turn sprites)

pub lie_again : (turn : Bool) (s l m : Size) → MayLie turn s l → MayLie turn l m → MayLie turn s m
lie_again turn s l m (inl e) (inl f) = inl (f ∙ e)
lie_again turn s l m (inl e) (inr f) = inr (f.0, f.1 ∙ ap turned_size e)
lie_again turn s l m (inr e) (inl f) = inr (e.0, f ∙ e.1)
lie_again turn s l m (inr e) (inr f) = inl (f.1 ∙ ap turned_size e.1)

-- What may lie so and then so may lie so at once.
pub lie_on : (turn : Bool) (sprites lying later : List Size) → AllZip (MayLie turn) sprites lying
    → AllZip (MayLie turn) lying later
    → AllZip (MayLie turn) sprites later
lie_on turn [] [] [] a b = tt
lie_on turn [] [] (m ∷ later) a b = elim b [ ]
lie_on turn [] (l ∷ lying) later a b = elim a [ ]
lie_on turn (s ∷ sprites) [] later a b = elim a [ ]
lie_on turn (s ∷ sprites) (l ∷ lying) [] a b = elim b [ ]
lie_on turn (s ∷ sprites) (l ∷ lying) (m ∷ later) a b = (lie_again turn s l m a.0 b.0, lie_on turn sprites lying later a.1 b.1)

packable_turned : (spacing : Spacing) (turn : Bool) (s l : Size) → MayLie turn s l → IsPackable spacing s
    → IsPackable spacing l
packable_turned spacing turn s l (inl e) packs = subst (IsPackable spacing) (sym e) packs
packable_turned spacing turn s l (inr e) packs =
    subst (IsPackable spacing) (sym e.1) (record { positive = (packs.positive.1, packs.positive.0); wide = packs.high; high = packs.wide })

pub lie_packable : (spacing : Spacing) (turn : Bool) (sprites lying : List Size) → AllZip (MayLie turn) sprites lying
    → All (IsPackable spacing) sprites → All (IsPackable spacing) lying
lie_packable spacing turn [] [] a each = All-nil (IsPackable spacing)
lie_packable spacing turn [] (l ∷ lying) a each = elim a [ ]
lie_packable spacing turn (s ∷ sprites) [] a each = elim a [ ]
lie_packable spacing turn (s ∷ sprites) (l ∷ lying) a each =
    All-cons (IsPackable spacing) l lying (packable_turned spacing turn s l a.0 (All-head (IsPackable spacing) s sprites each))
    (lie_packable spacing turn sprites lying a.1 (All-tail (IsPackable spacing) s sprites each))

-- A numbered sprite that is given other sides if it has this number.
put : (n : ℕ) (t : Size) → ℕ × Size → ℕ × Size
put n t s = cond (eqb s.0 n) (n, t) s

put_here : (n : ℕ) (t : Size) (s : ℕ × Size) → s.0 ≡ n → put n t s ≡ (n, t)
unfolding put
put_here n t s is = ap (λ b. cond b (n, t) s) (eq-eqb s.0 n is)

put_else : (n : ℕ) (t : Size) (s : ℕ × Size) → s.0 ≢ n → put n t s ≡ s
unfolding put
put_else n t s other = by_test (eqb s.0 n) refl
  where
    by_test : (b : Bool) → eqb s.0 n ≡ b → cond (eqb s.0 n) (n, t) s ≡ s
    by_test true e = absurd (other (eqb-true s.0 n e))
    by_test false e = ap (λ b. cond b (n, t) s) e

put_none : (n : ℕ) (t : Size) (xs : List (ℕ × Size)) → All (λ s. s.0 ≢ n) xs → map (put n t) xs ≡ xs
put_none n t [] other = refl
put_none n t (s ∷ xs) other = λ i.
    put_else n t s (All-head (λ s. s.0 ≢ n) s xs other) i ∷ put_none n t xs (All-tail (λ s. s.0 ≢ n) s xs other) i

past : (n m : ℕ) (xs : List Size) → n < m → All (λ s. s.0 ≢ n) (enumerate_from m xs)
past n m [] less = All-nil (λ s. s.0 ≢ n)
past n m (x ∷ xs) less =
    All-cons (λ s. s.0 ≢ n) (m, x) (enumerate_from (m + 1) xs) (λ e. let same : m ≡ n = e in absurd (omega arith))
    (past n (m + 1) xs (omega arith))

renumbered : (n : ℕ) (t : Size) (m j : ℕ) (xs : List Size) → n ≡ m + j
    → map (put n t) (enumerate_from m xs) ≡ enumerate_from m (set xs j t)
renumbered n t m j [] e = refl
renumbered n t m zero (x ∷ xs) e =
    let here : n ≡ m = omega arith in
    let first : put n t (m, x) ≡ (m, t) = put_here n t (m, x) (sym here) ∙ (λ i. (here i, t)) in
    let rest : map (put n t) (enumerate_from (m + 1) xs) ≡ enumerate_from (m + 1) xs =
    put_none n t (enumerate_from (m + 1) xs) (past n (m + 1) xs (omega arith)) in
    λ i. first i ∷ rest i
renumbered n t m (suc j) (x ∷ xs) e =
    let first : put n t (m, x) ≡ (m, x) = put_else n t (m, x) (λ f. let same : m ≡ n = f in absurd (omega arith)) in
    let rest : map (put n t) (enumerate_from (m + 1) xs) ≡ enumerate_from (m + 1) (set xs j t) =
    renumbered n t (m + 1) j xs (omega arith) in
    λ i. first i ∷ rest i

put_once : (n : ℕ) (t : Size) (xs : List (ℕ × Size)) (at : ℕ) → count_by (λ s. s.0 == n) xs ≤ 1 → at < length xs
    → (get_or xs at no_sprite).0 ≡ n → map (put n t) xs ≡ set xs at (n, t)
put_once n t [] at few inside is = absurd (omega arith)
put_once n t (s ∷ xs) zero few inside is =
    let count : count_by (λ s. s.0 == n) (s ∷ xs) ≡ one_if (s.0 == n) + count_by (λ s. s.0 == n) xs = count_by-cons (λ s. s.0 == n) s xs in
    let hit : one_if (s.0 == n) ≡ 1 = ap one_if (eq-eqb s.0 n is) in
    let rest : map (put n t) xs ≡ xs = put_none n t xs (others n xs (omega arith)) in
    λ i. put_here n t s is i ∷ rest i
put_once n t (s ∷ xs) (suc at) few inside is =
    let count : count_by (λ s. s.0 == n) (s ∷ xs) ≡ one_if (s.0 == n) + count_by (λ s. s.0 == n) xs = count_by-cons (λ s. s.0 == n) s xs in
    let other : s.0 ≢ n = λ e.
    let hit : one_if (s.0 == n) ≡ 1 = ap one_if (eq-eqb s.0 n e) in
    All-get_or (λ s. s.0 ≢ n) xs at no_sprite (omega arith) (others n xs (omega arith)) is in
    let rest : map (put n t) xs ≡ set xs at (n, t) = put_once n t xs at (omega arith) (omega arith) is in
    λ i. put_else n t s other i ∷ rest i

-- Each numbered sprite has the sides of the sprite with its number.
own_sides : (m : ℕ) (xs : List Size) (d : Size)
    → All (λ s. (m ≤ s.0) × (s.1 ≡ get_or xs (s.0 - m) d)) (enumerate_from m xs)
own_sides m [] d = All-nil (λ s. (m ≤ s.0) × (s.1 ≡ get_or [] (s.0 - m) d))
own_sides m (x ∷ xs) d =
    let P : ℕ × Size → Type 0 = λ s. (m ≤ s.0) × (s.1 ≡ get_or (x ∷ xs) (s.0 - m) d) in
    let Q : ℕ × Size → Type 0 = λ s. (m + 1 ≤ s.0) × (s.1 ≡ get_or xs (s.0 - (m + 1)) d) in
    let none : 0 ≡ m - m = omega arith in
    All-cons P (m, x) (enumerate_from (m + 1) xs) (omega arith, ap (λ k. get_or (x ∷ xs) k d) none)
    (All-weaker Q P
    (λ s q. let back : suc (s.0 - (m + 1)) ≡ s.0 - m = omega (arith, q.0) in (omega (arith, q.0), q.1 ∙ ap (λ k. get_or (x ∷ xs) k d) back))
    (enumerate_from (m + 1) xs) (own_sides (m + 1) xs d))

set_lies : (xs : List Size) (n : ℕ) (t d : Size) → n < length xs → t ≡ turned_size (get_or xs n d)
    → AllZip (MayLie true) xs (set xs n t)
set_lies [] n t d inside is = absurd (omega arith)
set_lies (x ∷ xs) zero t d inside is = (inr (refl, is), lie_as_given true xs)
set_lies (x ∷ xs) (suc n) t d inside is = (inl refl, set_lies xs n t d (omega arith) is)

module _ (lying : List Size) (order : List (ℕ × Size)) (at : ℕ) (moved : IsPermutation (enumerate_from 0 lying) order)
    (inside : at < length order) where
  -- One sprite is turned, and the order stays one of the numbered sprites.
  pub turned_permuted : (s : ℕ × Size) (t : Size) → s ≡ get_or order at no_sprite
      → IsPermutation (enumerate_from 0 (set lying s.0 t)) (set order at (s.0, t))
  turned_permuted s t is =
      let number : (get_or order at no_sprite).0 ≡ s.0 = ap (λ p. p.0) (sym is) in
      subst (λ xs. IsPermutation xs (set order at (s.0, t))) (renumbered s.0 t 0 s.0 lying (omega arith))
      (subst (IsPermutation (map (put s.0 t) (enumerate_from 0 lying)))
      (put_once s.0 t order at (order_once lying order moved s.0) inside number)
      (IsPermutation-map (put s.0 t) (enumerate_from 0 lying) order moved))

  pub turned_lies : (s : ℕ × Size) (t : Size) → s ≡ get_or order at no_sprite → s.0 < length lying → t ≡ turned_size s.1
      → AllZip (MayLie true) lying (set lying s.0 t)
  turned_lies s t is room turned =
      let P : ℕ × Size → Type 0 = λ s. (0 ≤ s.0) × (s.1 ≡ get_or lying (s.0 - 0) no_sprite.1) in
      let own : P (get_or order at no_sprite) =
      All-get_or P order at no_sprite inside (All-permutation P (enumerate_from 0 lying) order moved (own_sides 0 lying no_sprite.1)) in
      let here : P s = subst P (sym is) own in
      let zeroth : s.0 - 0 ≡ s.0 = omega arith in
      set_lies lying s.0 t no_sprite.1 room (turned ∙ ap turned_size (here.1 ∙ ap (λ k. get_or lying k no_sprite.1) zeroth))
