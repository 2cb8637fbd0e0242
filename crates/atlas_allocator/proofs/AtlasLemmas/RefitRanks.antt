-- The order in which grants are placed anew.
use Rattle.std.proofs.Common.{◌≡◌, ℕ, suc, ◌+◌, ◌%◌, ◌^◌, ◌==◌, ◌<◌, ◌≤◌, ◌⊎◌, Bool, true, false, List, [], ◌∷◌, map}
use Rattle.std.proofs.Common.{length, get_or, All, IsPermutation, refl, ap, subst, inl, inr, add-one, arith}
use Rattle.std.proofs.Common.{Ordering}
use Rattle.std.proofs.Math.Nat.{eq-or-lt_of_le}
use Rattle.std.proofs.lemmas.Bool.{eq-eqb, eqb-true}
use Rattle.std.proofs.lemmas.List.Elements.{All-nil, All-cons, All-head, All-tail}
use Rattle.std.proofs.lemmas.List.Sorted.{IsPermutation-map, IsPermutation-sym, IsPermutation-trans}
use Rattle.std.proofs.lemmas.List.Sorted.{sum_by-IsPermutation}
use Rattle.std.specs.List.{count_by}
use Rattle.std.specs.List.Sorted.{IsSortedByKey}
use Rattle.std.specs.Ordering.{nat_cmp, ordering_then, is_lt}
use Rattle.std.specs.declared.cmp.Reverse.{Reverse}
use Rattle.atlas_model.specs.Boxes.{area}
use Rattle.atlas_model.specs.Cuts.{cap}
use Rattle.atlas_model.specs.Refits.{Precedes, IsRanked, IsRefitOrder}
use Rattle.atlas_model.specs.Replies.{grant_of, AreRising, IsLiveList}
use Rattle.atlas_model.specs.States.{State, live_in}
use Rattle.atlas_model.specs.Trees.{Grant}
use Rattle.atlas_model.specs.declared.allocation.Allocation.{Allocation}
use Rattle.atlas_model.proofs.TreeLemmas.BoxLists.{same_grant, same_grant-itself, same_grant-true}
use Rattle.atlas_model.proofs.ListLemmas.ListCounts.{count_by-cons, permuted_from_counts}
use Rattle.atlas_model.proofs.TreeLemmas.TreeBasics.{one_if}
use Rattle.atlas_model.proofs.StepLemmas.RefitOrders.{onward}

abbrev slot_of : Grant → ℕ
slot_of g = g.id % 2 ^ 24

abbrev rank_of : Grant → ℕ
rank_of g = cap (area g.box)

abbrev has_slot : ℕ → Grant → Bool
has_slot k g = slot_of g == k

-- Slots are apart.

none_above : (k : ℕ) (gs : List Grant) → All (λ h. k < slot_of h) gs → count_by (has_slot k) gs ≡ 0
none_above k [] all = refl
none_above k (g ∷ gs) all =
    grind (arith, none_above k gs (All-tail (λ h. k < slot_of h) g gs all), All-tail, All-head, one_if, count_by-cons, eqb-true)

abbrev AreApart : List Grant → Type 0
AreApart gs = (k : ℕ) → count_by (has_slot k) gs ≤ 1

rising_apart : (gs : List Grant) → AreRising gs → AreApart gs
rising_apart [] rising k = omega arith
rising_apart (g ∷ gs) rising k = by_test (has_slot k g) refl (count_by-cons (has_slot k) g gs) (rising_apart gs rising.1 k)
  where
    by_test : (b : Bool) → has_slot k g ≡ b → count_by (has_slot k) (g ∷ gs) ≡ one_if b + count_by (has_slot k) gs
        → count_by (has_slot k) gs ≤ 1 → count_by (has_slot k) (g ∷ gs) ≤ 1
    by_test true e count later =
        let same : slot_of g ≡ k = eqb-true _ _ e in
        let none : count_by (has_slot (slot_of g)) gs ≡ 0 = none_above (slot_of g) gs rising.0 in
        let here : count_by (has_slot k) gs ≡ 0 = subst (λ j. count_by (has_slot j) gs ≡ 0) same none in
        omega arith
    by_test false e count later = omega arith

permuted_apart : (gs hs : List Grant) → IsPermutation gs hs → AreApart gs → AreApart hs
permuted_apart gs hs moved apart k =
    let same : count_by (has_slot k) hs ≡ count_by (has_slot k) gs = sum_by-IsPermutation (λ g. one_if (has_slot k g)) gs hs moved in
    let few : count_by (has_slot k) gs ≤ 1 = apart k in
    omega arith

-- What a sort by the key says of two neighbours.

abbrev IsNotBefore : (g h : Grant) → Type 0
IsNotBefore g h = (rank_of h < rank_of g) ⊎ ((rank_of h ≡ rank_of g) × (slot_of h ≤ slot_of g))

lexical : (a b m n : ℕ) → is_lt (ordering_then (nat_cmp a b) (nat_cmp m n)) ≡ false → (b < a) ⊎ ((b ≡ a) × (n ≤ m))
lexical a b m n = grind arith

-- Neighbours in order whose slots are apart.
ranked_from_neighbours : (xs : List Allocation)
    → ((k : ℕ) (d : Allocation) → suc k < length xs → IsNotBefore (grant_of (get_or xs k d)) (grant_of (get_or xs (suc k) d)))
    → AreApart (map grant_of xs) → IsRanked (map grant_of xs)
ranked_from_neighbours [] near apart = tt
ranked_from_neighbours (x ∷ []) near apart = (All-nil (Precedes (grant_of x)), tt)
ranked_from_neighbours (x ∷ y ∷ rest) near apart =
    let later : IsRanked (map grant_of (y ∷ rest)) = ranked_from_neighbours (y ∷ rest) (λ k d l. near (suc k) d (omega arith)) (λ k.
    let count : count_by (has_slot k) (map grant_of (x ∷ y ∷ rest)) ≡ one_if (has_slot k (grant_of x)) + count_by (has_slot k)
    (map grant_of (y ∷ rest)) =
    count_by-cons (has_slot k) (grant_of x) (map grant_of (y ∷ rest)) in
    let few : count_by (has_slot k) (map grant_of (x ∷ y ∷ rest)) ≤ 1 = apart k in
    omega arith) in
    let first : Precedes (grant_of x) (grant_of y) = strict (near 0 x (omega arith)) in (
      All-cons (Precedes (grant_of x)) (grant_of y) (map grant_of rest) first
          (λ k d l. onward (grant_of x) (grant_of y) (get_or (map grant_of rest) k d) first (later.0 k d l)),
      later,
    )
  where
    differ : slot_of (grant_of y) ≡ slot_of (grant_of x) → ⊥
    differ e =
        let s = slot_of (grant_of x) in
        let c : count_by (has_slot s) (map grant_of (x ∷ y ∷ rest)) ≡ one_if (has_slot s (grant_of x)) + count_by (has_slot s)
        (map grant_of (y ∷ rest)) =
        count_by-cons (has_slot s) (grant_of x) (map grant_of (y ∷ rest)) in
        let d : count_by (has_slot s) (map grant_of (y ∷ rest)) ≡ one_if (has_slot s (grant_of y)) + count_by (has_slot s)
        (map grant_of rest) =
        count_by-cons (has_slot s) (grant_of y) (map grant_of rest) in
        let p : one_if (has_slot s (grant_of x)) ≡ 1 = ap one_if (eq-eqb s s refl) in
        let q : one_if (has_slot s (grant_of y)) ≡ 1 = ap one_if (eq-eqb (slot_of (grant_of y)) s e) in
        let few : count_by (has_slot s) (map grant_of (x ∷ y ∷ rest)) ≤ 1 = apart s in
        omega arith

    by_least : (slot_of (grant_of y) ≡ slot_of (grant_of x)) ⊎ (slot_of (grant_of y) < slot_of (grant_of x))
        → slot_of (grant_of y) < slot_of (grant_of x)
    by_least (inl e) = absurd (differ e)
    by_least (inr l) = l

    strict : IsNotBefore (grant_of x) (grant_of y) → Precedes (grant_of x) (grant_of y)
    strict (inl a) = inl a
    strict (inr a) = inr (a.0, by_least (eq-or-lt_of_le a.1))

-- The key by which allocations are sorted.
abbrev pub refit_key : Allocation → Reverse (ℕ × ℕ)
refit_key a = record { 0 = (rank_of (grant_of a), slot_of (grant_of a)) }

abbrev pub refit_order : Reverse (ℕ × ℕ) → Reverse (ℕ × ℕ) → Ordering
refit_order x y = ordering_then (nat_cmp y.0.0 x.0.0) (nat_cmp y.0.1 x.0.1)

pub ranked_from_sort : (xs ys : List Allocation) → IsPermutation xs ys → IsSortedByKey refit_key refit_order ys
    → AreRising (map grant_of xs) → IsRanked (map grant_of ys)
ranked_from_sort xs ys moved sorted rising =
    ranked_from_neighbours ys
    (λ k d l. lexical _ _ _ _ (subst (λ j. is_lt (refit_order (refit_key (get_or ys j d)) (refit_key (get_or ys k d))) ≡ false) (add-one k)
    (sorted k d (omega arith) (omega arith))))
    (permuted_apart (map grant_of xs) (map grant_of ys) (IsPermutation-map grant_of xs ys moved) (rising_apart (map grant_of xs) rising))

-- What a list of live grants becomes that is put into this order.
pub refit_order_of : (s : State) (gs hs : List Grant) → IsLiveList s gs → IsPermutation gs hs → IsRanked hs
    → IsRefitOrder (live_in s) hs
refit_order_of s gs hs listed moved order = record {
  permuted = IsPermutation-trans (live_in s) gs hs
      (IsPermutation-sym gs (live_in s) (permuted_from_counts same_grant same_grant-itself same_grant-true gs (live_in s) listed.live))
      moved;
  ranked = order;
}
