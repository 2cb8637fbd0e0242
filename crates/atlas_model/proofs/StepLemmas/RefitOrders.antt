-- What is live can be put in the order of a refit.
use Rattle.std.proofs.Common.{◌≡◌, ℕ, ◌+◌, ◌%◌, ◌^◌, ◌≤◌, ◌==◌, ◌⊎◌, inl, inr, List, [], ◌∷◌, refl, sym, subst, ◌∙◌}
use Rattle.std.proofs.Common.{arith, IsPermutation, All}
use Rattle.std.proofs.lemmas.Bool.{eq-eqb}
use Rattle.std.proofs.lemmas.List.Elements.{All-nil, All-cons, All-head, All-tail, All-weaker, Contains-get_or}
use Rattle.std.proofs.lemmas.List.Sorted.{IsPermutation-refl, IsPermutation-sym, IsPermutation-trans}
use Rattle.std.proofs.lemmas.List.Sorted.{IsPermutation-cons, IsPermutation-middle, All-permutation}
use Rattle.std.specs.List.{count_by}
use Rattle.atlas_model.specs.Boxes.{Sides}
use Rattle.atlas_model.specs.Refits.{Precedes, IsRanked, IsRefitOrder}
use Rattle.atlas_model.specs.Trees.{Tree, Grant, live, IsWellFormed}
use Rattle.atlas_model.proofs.TreeLemmas.BoxLists.{count_live}
use Rattle.atlas_model.proofs.ListLemmas.ListCounts.{count_by-cons, count_some}
use Rattle.atlas_model.proofs.TreeLemmas.TreeBasics.{one_if}

-- The two grants have other slot numbers.
abbrev Differ : (g h : Grant) → Type 0
Differ g h = g.id % 2 ^ 24 ≡ h.id % 2 ^ 24 → ⊥

abbrev AllDiffer : List Grant → Type 0
AllDiffer [] = Unit {0}
AllDiffer (g ∷ gs) = All (Differ g) gs × AllDiffer gs

all_differ : (gs : List Grant) → ((id : ℕ) → count_by (λ g. g.id % 2 ^ 24 == id % 2 ^ 24) gs ≤ 1) → AllDiffer gs
all_differ [] once = tt
all_differ (g ∷ gs) once = (first, all_differ gs rest)
  where
    first : All (Differ g) gs
    first k d below same =
        let p = λ (h : Grant). h.id % 2 ^ 24 == g.id % 2 ^ 24 in
        let here : one_if (g.id % 2 ^ 24 == g.id % 2 ^ 24) ≡ 1 = rw (eq-eqb (g.id % 2 ^ 24) (g.id % 2 ^ 24) refl) refl in
        let more : 1 ≤ count_by p gs = count_some p gs _ (Contains-get_or gs k d below) (eq-eqb _ _ (sym same)) in
        let sum : count_by p (g ∷ gs) ≡ one_if (g.id % 2 ^ 24 == g.id % 2 ^ 24) + count_by p gs = count_by-cons p g gs in
        let one : count_by p (g ∷ gs) ≤ 1 = once g.id in
        omega arith

    rest : (id : ℕ) → count_by (λ g. g.id % 2 ^ 24 == id % 2 ^ 24) gs ≤ 1
    rest id =
        let p = λ (h : Grant). h.id % 2 ^ 24 == id % 2 ^ 24 in
        let sum : count_by p (g ∷ gs) ≡ one_if (g.id % 2 ^ 24 == id % 2 ^ 24) + count_by p gs = count_by-cons p g gs in
        let one : count_by p (g ∷ gs) ≤ 1 = once id in
        omega arith

-- Of two grants in other slots one precedes the other.
either : (g h : Grant) → Differ g h → Precedes g h ⊎ Precedes h g
either g h unlike = grind arith

pub onward : (g h k : Grant) → Precedes g h → Precedes h k → Precedes g k
onward g h k (inl a) (inl b) = inl (omega arith)
onward g h k (inl a) (inr b) = inl (omega (arith, b.0))
onward g h k (inr a) (inl b) = inl (omega (arith, a.0))
onward g h k (inr a) (inr b) = inr (b.0 ∙ a.0, omega (arith, a.1, b.1))

-- A grant put in its place.
inserted : (g : Grant) (xs : List Grant) → IsRanked xs → All (Differ g) xs
    → (ys : List Grant) × IsPermutation (g ∷ xs) ys × IsRanked ys
inserted g [] ranked differ = (g ∷ [], IsPermutation-refl (g ∷ []), (All-nil (Precedes g), tt))
inserted g (x ∷ xs) ranked differ =
    elim (either g x (All-head (Differ g) x xs differ)) [
      | inl before ↦ (
        g ∷ x ∷ xs,
        IsPermutation-refl (g ∷ x ∷ xs),
        (
          All-cons (Precedes g) x xs before (All-weaker (Precedes x) (Precedes g) (λ h later. onward g x h before later) xs ranked.0),
          ranked,
        ),
      )
      | inr after ↦
          let rest = inserted g xs ranked.1 (All-tail (Differ g) x xs differ) in (
            x ∷ rest.0,
            IsPermutation-trans (g ∷ x ∷ xs) (x ∷ g ∷ xs) (x ∷ rest.0)
                (IsPermutation-sym (x ∷ g ∷ xs) (g ∷ x ∷ xs) (IsPermutation-middle (x ∷ []) g xs))
                (IsPermutation-cons x (g ∷ xs) rest.0 rest.1),
            (All-permutation (Precedes x) (g ∷ xs) rest.0 rest.1 (All-cons (Precedes x) g xs after ranked.0), rest.2),
          )
    ]

ordered : (gs : List Grant) → AllDiffer gs → (ys : List Grant) × IsPermutation gs ys × IsRanked ys
ordered [] differ = ([], IsPermutation-refl [], tt)
ordered (g ∷ gs) differ =
    let rest = ordered gs differ.1 in
    let all = inserted g rest.0 rest.2 (All-permutation (Differ g) gs rest.0 rest.1 differ.0) in (
      all.0,
      IsPermutation-trans (g ∷ gs) (g ∷ rest.0) all.0 (IsPermutation-cons g gs rest.0 rest.1) all.1,
      all.2,
    )

pub refit_order : (size : Sides) (t : Tree) → IsWellFormed size t
    → (order : List Grant) × IsRefitOrder (live size t) order
refit_order size t well =
    let all = ordered (live size t) (all_differ (live size t)
    (λ id. subst (λ n. n ≤ 1) (sym (count_live (λ k. k % 2 ^ 24 == id % 2 ^ 24) size t)) (well.apart id))) in
    (all.0, record { permuted = all.1; ranked = all.2 })
