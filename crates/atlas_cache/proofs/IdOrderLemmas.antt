-- Changes in the order of their former ids.
use Rattle.std.proofs.Common.{ℕ, ℤ, suc, ◌+◌, ◌≡◌, ◌==◌, ◌≤◌, ◌<◌, inl, inr, Bool, false, cond, List, [], ◌∷◌, length, get_or, Option, None}
use Rattle.std.proofs.Common.{Some, refl, ap, ◌∙◌, arith, IsPermutation}
use Rattle.std.specs.List.{cons_option, count_by, filter_map, find}
use Rattle.std.specs.List.Sorted.{IsNonDecreasingBy, IsPartitionPoint, IsSortedByKey}
use Rattle.std.specs.Ordering.{nat_cmp, ordering_index}
use Rattle.std.specs.Prelude.{option_map}
use Rattle.std.specs.declared.cmp.Ordering.TheVariants.{Less, Equal, Greater}
use Rattle.std.proofs.lemmas.Bool.{cases_lt, eq-eqb, ne_eqb}
use Rattle.std.proofs.lemmas.List.Sorted.{IsNonDecreasingBy-from_all_adjacent}
use Rattle.std.proofs.lemmas.List.Elements.{Contains-get_or}
use Rattle.std.proofs.lemmas.Map.Keys.{ge_from_not_lt}
use borrow.Author.Tests.{tests}
use Rattle.guillotiere.specs.declared.Change.{Change}
use Rattle.guillotiere.proofs.ListLemmas.CallerLemmas.{count_by-permutation, find-counted_once, find-permutation}
use Rattle.atlas_entries.specs.declared.entries.Entry.{Entry}
use Rattle.atlas_cache.specs.Relocating.{become, former_id, renewed_by, told_as, told_of, AreInIdOrder}

module _ {X : Type 0} (p : X → Bool) where
  nowhere : (xs : List X) → ((k : ℕ) (d : X) → k < length xs → p (get_or xs k d) ≡ false) → find p xs ≡ None
  nowhere [] none = refl
  nowhere (x ∷ xs) none = let here = none 0 x (omega arith) in rw here (nowhere xs (λ k d l. none (suc k) d (omega (arith, l))))

is_equal : (a b : ℕ) → nat_cmp a b ≡ Equal → a ≡ b
is_equal a b is = grind (arith, tests)

is_less : (a b : ℕ) → nat_cmp a b ≡ Less → a ≡ b → ⊥
is_less a b is same = grind (arith, tests)

is_greater : (a b : ℕ) → nat_cmp a b ≡ Greater → a ≡ b → ⊥
is_greater a b is same = grind (arith, tests)

module _ (cs : List Change) (o : AreInIdOrder cs) (id : ℕ) where
  rises : IsNonDecreasingBy former_id cs
  rises = IsNonDecreasingBy-from_all_adjacent former_id cs
      (λ k d below. ge_from_not_lt (former_id (get_or cs (k + 1) d)) (former_id (get_or cs k d)) (o.rising k d (omega arith) (omega arith)))

  higher : (a b : ℕ) → a ≤ b → ordering_index (nat_cmp a id) ≤ ordering_index (nat_cmp b id)
  higher a b le = grind (arith, tests)

  -- What a search finds is the change of the id.
  pub found-at : (i : ℕ) (d : Change) → i < length cs → nat_cmp (former_id (get_or cs i d)) id ≡ Equal
      → find (λ c. c.old.id == id) cs ≡ Some (get_or cs i d)
  found-at i d within same =
      find-counted_once (λ (c : Change). c.old.id == id) cs (get_or cs i d) (o.once id) (Contains-get_or cs i d within)
      (eq-eqb (former_id (get_or cs i d)) id (is_equal (former_id (get_or cs i d)) id same))

  -- Where it finds none, there is none.
  pub found-none : (i : ℕ)
      → (IsNonDecreasingBy (λ (c : Change). ordering_index (nat_cmp (former_id c) id)) cs
      → IsPartitionPoint (λ (c : Change). nat_cmp (former_id c) id ≡ Less) (λ (c : Change). nat_cmp (former_id c) id ≡ Greater) cs i)
      → find (λ c. c.old.id == id) cs ≡ None
  found-none i parts =
      let parted = parts (λ a b d le below. higher (former_id (get_or cs a d)) (former_id (get_or cs b d)) (rises a b d le below)) in
      nowhere (λ (c : Change). c.old.id == id) cs (λ k d below. elim (cases_lt k i) [
        | inl less ↦ ne_eqb (former_id (get_or cs k d)) id (is_less (former_id (get_or cs k d)) id (parted.0 k d (omega arith) less))
        | inr more ↦ ne_eqb (former_id (get_or cs k d)) id (is_greater (former_id (get_or cs k d)) id (parted.1 k d more below))
      ])

module _ {X Y : Type 0} (f g : X → Option Y) (same : (x : X) → f x ≡ g x) where
  filter-same : (xs : List X) → filter_map f xs ≡ filter_map g xs
  filter-same [] = refl
  filter-same (x ∷ xs) = ap (λ o. cons_option o (filter_map f xs)) (same x) ∙ ap (λ ys. cons_option (g x) ys) (filter-same xs)

-- Changes that were sorted say the same.
module _ (cs sorted : List Change) (permuted : IsPermutation cs sorted) (once : (id : ℕ) → count_by (λ c. c.old.id == id) cs ≤ 1) where
  pub in-order : IsSortedByKey former_id nat_cmp sorted → AreInIdOrder sorted
  in-order rising = record {
    rising = rising;
    once = λ id. omega (arith, once id, count_by-permutation (λ (c : Change). c.old.id == id) cs sorted permuted);
  }

  module _ {K : Type 0} where
    renewed-same : (e : Entry K) → renewed_by sorted e ≡ renewed_by cs e
    renewed-same e =
        ap (option_map (λ (c : Change). record e { id = c.new.id; rectangle = c.new.rectangle }))
        (find-permutation (λ (c : Change). c.old.id == e.id) cs sorted permuted (once e.id))

    pub become-same : (page : ℕ) (es : List (Entry K))
        → filter_map (become page (renewed_by sorted)) es ≡ filter_map (become page (renewed_by cs)) es
    become-same page es =
        filter-same (become page (renewed_by sorted)) (become page (renewed_by cs))
        (λ e. ap (λ (o : Option (Entry K)). cond (e.page == page) o (Some e)) (renewed-same e)) es

    pub told-same : (padding : ℤ) (page : ℕ) (es : List (Entry K))
        → filter_map (told_of padding page (renewed_by sorted)) es ≡ filter_map (told_of padding page (renewed_by cs)) es
    told-same padding page es =
        filter-same (told_of padding page (renewed_by sorted)) (told_of padding page (renewed_by cs))
        (λ e. ap (λ (o : Option (Entry K)). cond (e.page == page) (Some (told_as padding e o)) None) (renewed-same e)) es
