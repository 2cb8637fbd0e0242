-- Lists of entries after one of them joined its list, or left it.
use Rattle.std.proofs.Common.{◌≡◌, ◌≢◌, ℕ, ◌<◌, ◌≤◌, inl, inr, true, List, length, sym, ap, ◌∙◌, subst, subst₂, arith}
use Rattle.std.specs.Prelude.{◌==◌, if◌then◌else◌}
use Rattle.std.proofs.lemmas.Bool.{cases_eq, cond-true, cond-false, eq-eqb, ne_eqb}
use Rattle.atlas_search.specs.declared.link.Link.{Link}
use Rattle.atlas_search.specs.Bands.{list_of}
use Rattle.atlas_model.specs.declared.geometry.Rectangle.{Rectangle}
use Rattle.atlas_model.specs.Boxes.{box_sides}
use Rattle.atlas_model.specs.Choice.{Options}
use Rattle.atlas_model.specs.Pixels.{box_of}
use Rattle.atlas_search.specs.Forks.{IsListed}
use Rattle.atlas_search.specs.Heaps.{members, tag_of}
use Rattle.atlas_search.specs.Items.{Item, item_at, item_sides}
use Rattle.atlas_search.specs.Lookups.{AreListed}
use Rattle.atlas_search.specs.Numbers.{occurs}
use Rattle.atlas_search.specs.Rectangles.{IsSolid}
use Rattle.atlas_search.specs.Tables.{head_of}
use Rattle.atlas_search.proofs.HeapLemmas.Frames.{heap-frame}
use Rattle.atlas_search.proofs.SearchLemmas.SortedLists.{sorted-frame}

-- The list of an entry's sides.
abbrev pub list_at : Options → List Item → ℕ → ℕ
list_at o es i = list_of o (item_sides (item_at es i))

-- Entry x joined list k or left it, which has the entries xs now. All others keep their boxes, and those of other lists
-- their links.
pub record IsRelisted (o : Options) (heads heads' : List Link) (es fs : List Item) (a : AreListed o heads es) (x k : ℕ)
    (xs : List ℕ) : Type 0 where
  pub few : k < 2704
  pub long : length fs ≡ length es
  pub list : IsListed fs k (head_of heads' k).number xs
  pub heads_stay : (j : ℕ) → j ≢ k → head_of heads' j ≡ head_of heads j
  pub has : (i : ℕ) → i ≢ x → occurs i xs ≡ occurs i (a.free_lists k)
  pub once : occurs x xs ≤ 1
  pub areas : (i : ℕ) → i ≢ x → (item_at fs i).area ≡ (item_at es i).area
  pub frees : (i : ℕ) → i ≢ x → (item_at fs i).is_free ≡ (item_at es i).is_free
  pub others : (i : ℕ) → i ≢ x → occurs i (a.free_lists k) ≡ 0 → item_at fs i ≡ item_at es i
  pub elsewhere : (j : ℕ) → j ≢ k → j < 2704 → occurs x (a.free_lists j) ≡ 0
  pub own : 0 < occurs x xs → ((item_at fs x).is_free ≡ true) × (list_at o fs x ≡ k)
  pub each : (item_at fs x).is_free ≡ true → (0 < occurs x xs) × IsSolid (item_at fs x).area

module _ (o : Options) (heads heads' : List Link) (es fs : List Item) (a : AreListed o heads es) (x k : ℕ) (xs : List ℕ)
    (c : IsRelisted o heads heads' es fs a x k xs) where
  abbrev lists : ℕ → List ℕ
  lists j = if j == k then xs else a.free_lists j

  lists-same : (j : ℕ) → j ≡ k → lists j ≡ xs
  lists-same j e = cond-true (j == k) xs (a.free_lists j) (eq-eqb j k e)

  lists-other : (j : ℕ) → j ≢ k → lists j ≡ a.free_lists j
  lists-other j ne = cond-false (j == k) xs (a.free_lists j) (ne_eqb j k ne)

  sides-kept : (i : ℕ) → i ≢ x → item_sides (item_at fs i) ≡ item_sides (item_at es i)
  sides-kept i ne = ap (λ (r : Rectangle). box_sides (box_of r)) (c.areas i ne)

  list-kept : (i : ℕ) → i ≢ x → list_at o fs i ≡ list_at o es i
  list-kept i ne = ap (list_of o) (sides-kept i ne)

  -- An entry of another list isn't x, nor in list k.
  not-x : (j i : ℕ) → j < 2704 → j ≢ k → 0 < occurs i (a.free_lists j) → i ≢ x
  not-x j i l ne h e = omega (arith, h, c.elsewhere j ne l, ap (λ n. occurs n (a.free_lists j)) e)

  not-here : (j i : ℕ) → j < 2704 → j ≢ k → 0 < occurs i (a.free_lists j) → occurs i (a.free_lists k) ≡ 0
  not-here j i l ne h = elim (cases_eq (occurs i (a.free_lists k)) 0) [
    | inl none ↦ none
    | inr some ↦ absurd (ne (sym (a.own j i l h).1 ∙ (a.own k i c.few (omega (arith, some))).1))
  ]

  lists-are : (j : ℕ) → j < 2704 → IsListed fs j (head_of heads' j).number (lists j)
  lists-are j l = elim (cases_eq j k) [
    | inl e ↦ subst₂ (λ n ys. IsListed fs n (head_of heads' n).number ys) (sym e) (sym (lists-same j e)) c.list
    | inr ne ↦
        let was = a.lists j l in
        let kept : (i : ℕ) → 0 < occurs i (members was.0) → item_at fs i ≡ item_at es i =
        λ i h.
        let in_list : 0 < occurs i (a.free_lists j) = omega (arith, h, was.2 i) in
        c.others i (not-x j i l ne in_list) (not-here j i l ne in_list) in
        let frame = heap-frame es fs (tag_of j) (head_of heads j).number was.0 c.long kept was.1 in
        subst₂ (λ (n : Link) ys. IsListed fs j n.number ys) (sym (c.heads_stay j ne)) (sym (lists-other j ne))
        (was.0, frame, was.2, sorted-frame es fs was.0 kept was.3)
  ]

  owns : (j i : ℕ) → j < 2704 → 0 < occurs i (lists j) → ((item_at fs i).is_free ≡ true) × (list_at o fs i ≡ j)
  owns j i l h = elim (cases_eq i x) [
    | inl e ↦ elim (cases_eq j k) [
      | inl here ↦
          let own = c.own (omega (arith, h, ap (occurs i) (lists-same j here), ap (λ n. occurs n xs) e)) in
          subst (λ n. ((item_at fs n).is_free ≡ true) × (list_at o fs n ≡ j)) (sym e) (own.0, own.1 ∙ sym here)
      | inr ne ↦ absurd (omega (arith, h, ap (occurs i) (lists-other j ne), ap (λ n. occurs n (a.free_lists j)) e, c.elsewhere j ne l))
    ]
    | inr other ↦
        let was : 0 < occurs i (a.free_lists j) = elim (cases_eq j k) [
          | inl here ↦ omega (arith, h, ap (occurs i) (lists-same j here), c.has i other, ap (λ n. occurs i (a.free_lists n)) here)
          | inr ne ↦ omega (arith, h, ap (occurs i) (lists-other j ne))
        ] in
        let own = a.own j i l was in
        (c.frees i other ∙ own.0, list-kept i other ∙ own.1)
  ]

  has-each : (i : ℕ) → (item_at fs i).is_free ≡ true → 0 < occurs i (lists (list_at o fs i))
  has-each i free = elim (cases_eq i x) [
    | inl e ↦
        let there = c.each (subst (λ n. (item_at fs n).is_free ≡ true) e free) in
        let own : list_at o fs i ≡ k = ap (list_at o fs) e ∙ (c.own there.0).1 in
        omega (arith, there.0, ap (occurs i) (lists-same (list_at o fs i) own), ap (λ n. occurs n xs) e)
    | inr other ↦
        let was = a.each i (sym (c.frees i other) ∙ free) in
        let same_list = list-kept i other in
        elim (cases_eq (list_at o fs i) k) [
          | inl here ↦
              omega (
                arith,
                was,
                c.has i other,
                ap (occurs i) (lists-same (list_at o fs i) here),
                ap (λ n. occurs i (a.free_lists n)) (sym same_list ∙ here),
              )
          | inr ne ↦ omega (arith, was, ap (occurs i) (lists-other (list_at o fs i) ne), ap (λ n. occurs i (a.free_lists n)) same_list)
        ]
  ]

  has-once : (j i : ℕ) → j < 2704 → occurs i (lists j) ≤ 1
  has-once j i l = elim (cases_eq j k) [
    | inl here ↦ elim (cases_eq i x) [
      | inl e ↦ omega (arith, c.once, ap (occurs i) (lists-same j here), ap (λ n. occurs n xs) e)
      | inr other ↦ omega (arith, c.has i other, a.once k i c.few, ap (occurs i) (lists-same j here))
    ]
    | inr ne ↦ omega (arith, a.once j i l, ap (occurs i) (lists-other j ne))
  ]

  are-exact : (i : ℕ) → (item_at fs i).is_free ≡ true → IsSolid (item_at fs i).area
  are-exact i free = elim (cases_eq i x) [
    | inl e ↦ subst (λ n. IsSolid (item_at fs n).area) (sym e) (c.each (subst (λ n. (item_at fs n).is_free ≡ true) e free)).1
    | inr other ↦ subst IsSolid (sym (c.areas i other)) (a.exact i (sym (c.frees i other) ∙ free))
  ]

  pub relisted : AreListed o heads' fs
  relisted = record {
    free_lists = lists;
    valid = a.valid;
    short = omega (arith, a.short, c.long);
    lists = lists-are;
    own = owns;
    each = has-each;
    once = λ j i l. has-once j i l;
    exact = are-exact;
  }
