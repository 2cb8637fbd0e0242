-- Two heaps become one: the top that comes first hangs where both shall, and the other heap below it.
use Rattle.std.proofs.Common.{◌≡◌, ℕ, ◌<◌, List, length, set, ap, sym, ◌∙◌, subst, arith}
use Rattle.std.proofs.lemmas.Bool.{cases_eq}
use Rattle.std.proofs.lemmas.List.{get_or-set_same, get_or-set_other, length-set}
use Rattle.std.proofs.Common.{inl, inr}
use Rattle.atlas_model.specs.Choice.{ComesFirst}
use Rattle.atlas_model.proofs.ChoiceLemmas.PickExistence.{first-then}
use Rattle.atlas_search.specs.Numbers.{occurs}
use Rattle.atlas_search.specs.Rectangles.{IsSolid}
use Rattle.atlas_search.specs.HeapCalls.{AreSeparate, IsRelinked, IsMelded, KeepsKinds}
use Rattle.atlas_search.specs.Heaps.{Heap, IsAbove, members}
use Rattle.atlas_search.specs.Items.{Item, item_at, item_box, linked, no_item}
use Rattle.atlas_search.proofs.HeapLemmas.Frames.{above-frame, heap-frame}
use Rattle.atlas_search.proofs.HeapLemmas.Hanging.{areas-then, boxes-same, first-of, heap-reup, top-in}

pub linked-by : (es fs : List Item) (at up left right : ℕ) → at < length es → fs ≡ set es at (linked (item_at es at) up left right)
    → IsRelinked es fs at up left right
linked-by es fs at up left right inside e = record {
  long = ap length e ∙ length-set es at (linked (item_at es at) up left right);
  here = ap (λ (xs : List Item). item_at xs at) e ∙ get_or-set_same es at (linked (item_at es at) up left right) no_item inside;
  others = λ k ne. ap (λ (xs : List Item). item_at xs k) e ∙ get_or-set_other es at k (linked (item_at es at) up left right) no_item ne;
}

pub linked-as : (es fs : List Item) (at up left right up' left' right' : ℕ) → up ≡ up' → left ≡ left' → right ≡ right'
    → IsRelinked es fs at up left right → IsRelinked es fs at up' left' right'
linked-as es fs at up left right up' left' right' u l r is = record {
  long = is.long;
  here = is.here ∙ ap (λ n. linked (item_at es at) n left right) u ∙ ap (λ n. linked (item_at es at) up' n right) l
      ∙ ap (λ n. linked (item_at es at) up' left' n) r;
  others = is.others;
}

pub linked-areas : (es fs : List Item) (at up left right : ℕ) → IsRelinked es fs at up left right → KeepsKinds es fs
linked-areas es fs at up left right is = record {
  long = is.long;
  areas = λ k. elim (cases_eq k at) [
    | inl e ↦ ap (λ n. (item_at fs n).area) e ∙ ap (λ (t : Item). t.area) is.here ∙ sym (ap (λ n. (item_at es n).area) e)
    | inr ne ↦ ap (λ (t : Item). t.area) (is.others k ne)
  ];
  frees = λ k. elim (cases_eq k at) [
    | inl e ↦ ap (λ n. (item_at fs n).is_free) e ∙ ap (λ (t : Item). t.is_free) is.here ∙ sym (ap (λ n. (item_at es n).is_free) e)
    | inr ne ↦ ap (λ (t : Item). t.is_free) (is.others k ne)
  ];
  forks = λ k. elim (cases_eq k at) [
    | inl e ↦ ap (λ n. (item_at fs n).is_fork) e ∙ ap (λ (t : Item). t.is_fork) is.here ∙ sym (ap (λ n. (item_at es n).is_fork) e)
    | inr ne ↦ ap (λ (t : Item). t.is_fork) (is.others k ne)
  ];
}

pub apart-swap : (es : List Item) (up one under other : ℕ) (g h : Heap) → AreSeparate es up one g under other h
    → AreSeparate es under other h up one g
apart-swap es up one under other g h a = record {
  short = a.short;
  heap = a.part;
  part = a.heap;
  some = a.more;
  more = a.some;
  once = λ k. omega (arith, a.once k);
  exact = λ k l. a.exact k (omega (arith, l));
}

pub melded-swap : (es fs : List Item) (up top : ℕ) (g h : Heap) → IsMelded es fs up top g h → IsMelded es fs up top h g
melded-swap es fs up top g h m = record {
  both = m.both;
  heap = m.heap;
  has = λ k. omega (arith, m.has k);
  others = λ k none. m.others k (omega (arith, none));
}

module _ (es fs : List Item) (up one under other up' : ℕ) (g h : Heap) (a : AreSeparate es up one g under other h)
    (is : IsRelinked es fs one up' (item_at es one).left (item_at es one).right) where
  there : 0 < occurs one (members g)
  there = top-in es up one g a.heap a.some

  -- The top of the first heap hangs elsewhere.
  pub apart-raised : AreSeparate fs up' one g under other h
  apart-raised = record {
    short = omega (arith, a.short, is.long);
    heap = heap-reup es fs up up' one g a.short is.long a.some a.heap (λ k. omega (arith, a.once k)) is.here (λ k l ne. is.others k ne);
    part = heap-frame es fs under other h is.long
        (λ k l. is.others k (λ e. omega (arith, l, a.once k, there, ap (λ n. occurs n (members g)) e))) a.part;
    some = a.some;
    more = a.more;
    once = a.once;
    exact = λ k l. subst IsSolid (sym ((linked-areas es fs one up' (item_at es one).left (item_at es one).right is).areas k)) (a.exact k l);
  }

  pub above-raised : ComesFirst (item_box (item_at es one)) (item_box (item_at es other)) → IsAbove fs one h
  above-raised first =
      let boxes = boxes-same es fs (linked-areas es fs one up' (item_at es one).left (item_at es one).right is) in
      above-frame es fs one h (boxes one) (λ k l. boxes k)
      (λ j l. first-then (item_box (item_at es one)) (item_box (item_at es other)) (item_box (item_at es j)) first
      (first-of es under other h a.part j l))

  pub melded-raised : (gs : List Item) → IsMelded fs gs up' one g h → IsMelded es gs up' one g h
  melded-raised gs m = record {
    both = m.both;
    heap = m.heap;
    has = m.has;
    others = λ k none. m.others k none ∙ is.others k (λ e. omega (arith, none, there, ap (λ n. occurs n (members g)) e));
  }

  pub areas-raised : (gs : List Item) → KeepsKinds fs gs → KeepsKinds es gs
  areas-raised gs b = areas-then es fs gs (linked-areas es fs one up' (item_at es one).left (item_at es one).right is) b
