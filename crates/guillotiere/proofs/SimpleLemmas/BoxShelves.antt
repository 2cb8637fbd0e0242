-- The free boxes of the simple allocator, after an entry is taken and a box is put into it.
use Rattle.std.proofs.Common.{◌≡◌, ◌≢◌, ℕ, ◌+◌, ◌<◌, ◌≤◌, ◌⊎◌, inl, inr, true, false, List, [], ◌∷◌, ◌++◌, map, length, slice_set, cond}
use Rattle.std.proofs.Common.{refl, sym, ap, ◌∙◌, subst, subst₂, arith}
use Rattle.std.specs.Prelude.{◌==◌}
use Rattle.std.proofs.lemmas.Bool.{cases_eq, both_ways, eqb-true, not-false}
use Rattle.std.proofs.lemmas.List.{length-map, length-set, map-set}
use Rattle.guillotiere.specs.declared.simple.boxes.FreeBox.{FreeBox}
use Rattle.atlas_model.specs.declared.geometry.Rectangle.{Rectangle}
use Rattle.atlas_search.specs.declared.link.Link.{Link}
use Rattle.atlas_search.specs.Bands.{list_of}
use Rattle.atlas_model.specs.Boxes.{AreSameBoxes, box_sides}
use Rattle.guillotiere.specs.FreeBoxes.BoxShelves.{IsIdleFrom, stored_item, free_item_boxes, free_count, AreKept, IsClaimed}
use Rattle.atlas_model.specs.Choice.{Options, AreValid}
use Rattle.atlas_model.specs.Pixels.{box_of}
use Rattle.atlas_search.specs.HeapCalls.{CanPush, HasPushed, KeepsAreas}
use Rattle.atlas_search.specs.Heaps.{Heap, IsHeap, members, tag_of}
use Rattle.atlas_search.specs.Heaps.Heap.{None}
use Rattle.atlas_search.specs.Items.{Item, no_item, item_at, item_box, item_sides}
use Rattle.atlas_search.specs.Rectangles.{IsSolid}
use Rattle.atlas_search.specs.Numbers.{occurs, same, no_slot}
use Rattle.atlas_search.specs.Lookups.{AreListed}
use Rattle.atlas_search.specs.Tables.{head_of, is_used_at, no_link, CanHold}
use Rattle.atlas_search.proofs.HeapLemmas.Frames.{heap-frame, heap-longer}
use Rattle.atlas_search.proofs.SearchLemmas.FewHeads.{holds}
use Rattle.atlas_search.proofs.SearchLemmas.Heaps.{none-of, top-of}
use Rattle.atlas_search.proofs.Occurrences.{same-self, same-ne}
use Rattle.guillotiere.proofs.SimpleLemmas.EntryCounts.{count-of_free, count-of_idle, idle-frame, idle-inside, kept-idle, unused_list-idle}
use Rattle.guillotiere.proofs.SimpleLemmas.HeapLists.{IsRelisted, relisted}
use Rattle.atlas_search.specs.Forks.{IsRouted, IsSorted, cell_of}
use Rattle.atlas_search.proofs.SearchLemmas.SortedLists.{HasCell, list-cells, routed-by, sorted-by, sorted-frame}
use Rattle.guillotiere.proofs.SimpleLemmas.ItemBoxes.{boxes-with, boxes-kept, item_at-same, item_at-other, item_at-more, length-more}
use Rattle.guillotiere.proofs.SimpleLemmas.ItemBoxes.{exact-width}

-- ---- no box

pub empty-kept : (o : Options) (heads : List Link) (unused : Link) → AreValid o
    → ((k : ℕ) → is_used_at heads k ≡ false) → unused.number ≡ no_slot
    → AreKept o (record { entries = []; heads = heads; unused = unused; used = 0 })
empty-kept o heads unused valid none last =
    record {
      listed =
          record {
            free_lists = λ k. [];
            valid = valid;
            short = omega arith;
            lists = λ k l. (None, empty k, λ i. refl, λ i h. absurd (omega (arith, h)));
            own = λ k i l h. absurd (omega (arith, h));
            each = λ i f. absurd (both_ways false refl f);
            once = λ k i l. omega arith;
            exact = λ i f. absurd (both_ways false refl f);
          };
      unused_list = [];
      chain = last;
      each = λ i l. absurd (omega (arith, l));
      used = refl;
    }
  where
    empty : (k : ℕ) → (head_of heads k).number ≡ no_slot
    empty k = eqb-true (head_of heads k).number no_slot (not-false ((head_of heads k).number == no_slot) (none k))

-- ---- an entry is taken

listed-same : (o : Options) (heads : List Link) (es es' : List Item) → ((i : ℕ) → item_at es' i ≡ item_at es i)
    → length es ≤ length es' → length es' ≤ 4261412864
    → AreListed o heads es → AreListed o heads es'
listed-same o heads es es' at longer short c = record {
  free_lists = c.free_lists;
  valid = c.valid;
  short = short;
  lists = λ k l. let list = c.lists k l in (
    list.0,
    heap-longer es es' (tag_of k) (head_of heads k).number list.0 longer (λ i _. at i)
        list.1,
    list.2,
    sorted-frame es es' list.0 (λ i _. at i) list.3,
  );
  own = λ k i l h. subst (λ (t : Item). (t.is_free ≡ true) × (list_of o (item_sides t) ≡ k)) (sym (at i)) (c.own k i l h);
  each = λ i f.
      subst (λ (t : Item). 0 < occurs i (c.free_lists (list_of o (item_sides t)))) (sym (at i))
      (c.each i (ap (λ (t : Item). t.is_free) (sym (at i)) ∙ f));
  once = c.once;
  exact = λ i f. subst (λ (t : Item). IsSolid t.area) (sym (at i)) (c.exact i (ap (λ (t : Item). t.is_free) (sym (at i)) ∙ f));
}

past-idle : (es : List Item) → (item_at es (length es)).is_free ≡ false
past-idle [] = refl
past-idle (t ∷ es) = past-idle es

-- A new entry at the end.
pub taken-new : (o : Options) (heads : List Link) (es : List Item) (unused : Link) (used : ℕ) → length es < 4261412864
    → AreKept o (record { entries = es; heads = heads; unused = unused; used = used })
    → IsClaimed o (record { entries = es ++ no_item ∷ []; heads = heads; unused = unused; used = used + 1 }) (length es)
taken-new o heads es unused used short kept =
    record {
      kept = record {
        listed = listed-same o heads es (es ++ no_item ∷ []) (item_at-more es) (omega (arith, length-more es))
            (omega (arith, length-more es, short)) kept.listed;
        unused_list = kept.unused_list;
        chain = idle-frame es (es ++ no_item ∷ []) unused.number kept.unused_list (omega (arith, length-more es))
            (λ i h. ap (λ (t : Item). t.up) (item_at-more es i)) kept.chain;
        each = λ i l. each_by i l (cases_eq i (length es));
        used = omega (arith, kept.used, length-more es);
      };
      inside = omega (arith, length-more es);
    }
  where
    none : occurs (length es) kept.unused_list ≡ 0
    none = grind (arith, idle-inside)

    each_by : (i : ℕ) → i < length (es ++ no_item ∷ []) → (i ≡ length es) ⊎ (i ≢ length es)
        → occurs i kept.unused_list + same i (length es) + free_count (item_at (es ++ no_item ∷ []) i) ≡ 1
    each_by i l (inl e) =
        omega (
          arith,
          none,
          ap (λ n. occurs n kept.unused_list) e,
          ap (λ n. same n (length es)) e,
          same-self (length es),
          count-of_idle (item_at (es ++ no_item ∷ []) i) (ap (λ (t : Item). t.is_free) (item_at-more es i) ∙
              (ap (λ n. (item_at es n).is_free) e ∙ past-idle es)),
        )
    each_by i l (inr ne) =
        omega (arith, same-ne i (length es) ne, kept.each i (omega (arith, l, length-more es)), ap free_count (item_at-more es i))

pub unused-inside : (o : Options) (heads : List Link) (es : List Item) (unused : Link) (used : ℕ)
    → unused.number ≢ no_slot
    → AreKept o (record { entries = es; heads = heads; unused = unused; used = used }) → unused.number < length es
unused-inside o heads es unused used some kept = go kept.unused_list kept.chain
  where
    go : (xs : List ℕ) → IsIdleFrom es unused.number xs → unused.number < length es
    go [] p = absurd (some p)
    go (x ∷ xs) p = omega (arith, p.0, p.1)

-- The first of the unused entries.
pub taken-again : (o : Options) (heads : List Link) (es : List Item) (unused next : Link) (used : ℕ)
    → unused.number ≢ no_slot
    → next.number ≡ (item_at es unused.number).up
    → AreKept o (record { entries = es; heads = heads; unused = unused; used = used })
    → IsClaimed o (record { entries = es; heads = heads; unused = next; used = used + 1 }) unused.number
taken-again o heads es unused next used some leads kept = go kept.unused_list kept.chain kept.each kept.used
  where
    go : (xs : List ℕ) → IsIdleFrom es unused.number xs
        → ((i : ℕ) → i < length es → occurs i xs + 0 + free_count (item_at es i) ≡ 1)
        → used + length xs ≡ length es
        → IsClaimed o (record { entries = es; heads = heads; unused = next; used = used + 1 }) unused.number
    go [] p each count = absurd (some p)
    go (x ∷ xs) p each count =
        record {
          kept = record {
            listed = kept.listed;
            unused_list = xs;
            chain = subst (λ n. IsIdleFrom es n xs) (ap (λ n. (item_at es n).up) (sym p.0) ∙ sym leads) p.2;
            each = λ i l. omega (arith, each i l, ap (λ n. same i n) p.0);
            used = omega (arith, count);
          };
          inside = omega (arith, p.0, p.1);
        }

-- ---- a box is put into an entry

-- The entry that is claimed is given a box, and then joins list k.
module _ (o : Options) (heads : List Link) (es : List Item) (unused : Link) (used : ℕ) (x k : ℕ) (e : Item)
    (claimed : IsClaimed o (record { entries = es; heads = heads; unused = unused; used = used }) x) (free : e.is_free ≡ true)
    (exact : IsSolid e.area) (own : list_of o (item_sides e) ≡ k) (few : k < 2704) where
  abbrev given : List Item
  given = slice_set es x e

  pub listed : AreListed o heads es
  listed = claimed.kept.listed

  here : occurs x claimed.kept.unused_list + same x x + free_count (item_at es x) ≡ 1
  here = claimed.kept.each x claimed.inside

  idle : (item_at es x).is_free ≡ false
  idle = kept-idle (λ i. same i x) o (record { entries = es; heads = heads; unused = unused; used = used }) claimed.kept x claimed.inside
      (omega (arith, same-self x))

  pub given-here : item_at given x ≡ e
  given-here = item_at-same es x e claimed.inside

  given-other : (i : ℕ) → i ≢ x → item_at given i ≡ item_at es i
  given-other i ne = item_at-other es x i e ne

  -- It stands in no list.
  nowhere : (j : ℕ) → j < 2704 → occurs x (listed.free_lists j) ≡ 0
  nowhere j l = elim (cases_eq (occurs x (listed.free_lists j)) 0) [
    | inl none ↦ none
    | inr some ↦ absurd (both_ways _ idle (listed.own j x l (omega (arith, some))).0)
  ]

  abbrev pub pushed_heap : Heap
  pushed_heap = (listed.lists k few).0

  of_list : (i : ℕ) → 0 < occurs i (members pushed_heap) → i ≢ x
  of_list i h is = omega (arith, h, (listed.lists k few).2 i, nowhere k few, ap (λ n. occurs n (listed.free_lists k)) is)

  of_own : (i : ℕ) → 0 < occurs i (members pushed_heap)
      → IsSolid (item_at es i).area × (list_of o (item_sides (item_at es i)) ≡ k)
  of_own i h =
      let its = listed.own k i few (omega (arith, h, (listed.lists k few).2 i)) in
      (listed.exact i its.0, its.1)

  given-cells : HasCell given (cell_of (item_sides e)) pushed_heap
  given-cells =
      list-cells o given k pushed_heap e.area exact own
      (λ i h. subst (λ (t : Item). IsSolid t.area × (list_of o (item_sides t) ≡ k)) (sym (given-other i (of_list i h))) (of_own i h))

  pub put-can : CanPush given (tag_of k) (head_of heads k).number no_slot x pushed_heap
  put-can = record {
    sound = record {
      short = omega (arith, listed.short, length-set es x e);
      heap = heap-frame es given (tag_of k) (head_of heads k).number pushed_heap (length-set es x e)
          (λ i h. given-other i (of_list i h)) (listed.lists k few).1;
      once = λ i. omega (arith, listed.once k i few, (listed.lists k few).2 i);
      exact = λ i h.
          subst (λ (t : Item). IsSolid t.area) (sym (given-other i (of_list i h)))
          (listed.exact i (listed.own k i few (omega (arith, h, (listed.lists k few).2 i))).0);
    };
    inside = omega (arith, claimed.inside, length-set es x e);
    solid = subst (λ (t : Item). IsSolid t.area) (sym given-here) exact;
    apart = omega (arith, nowhere k few, (listed.lists k few).2 x);
    near = inl refl;
    routed = subst (λ (t : Item). IsRouted given (cell_of (item_sides t)) pushed_heap) (sym given-here)
        (routed-by given (cell_of (item_sides e)) pushed_heap given-cells
        (sorted-frame es given pushed_heap (λ i h. given-other i (of_list i h)) (listed.lists k few).3));
  }

  module _ (heads' : List Link) (fs : List Item) (top : ℕ) (pushed : HasPushed given fs (tag_of k) top x pushed_heap)
      (areas : KeepsAreas given fs) (head : (head_of heads' k).number ≡ top)
      (other_heads : (j : ℕ) → j ≢ k → head_of heads' j ≡ head_of heads j) where
    long : length fs ≡ length es
    long = areas.long ∙ length-set es x e

    free-here : (item_at fs x).is_free ≡ true
    free-here = areas.frees x ∙ ap (λ (t : Item). t.is_free) given-here ∙ free

    area-here : (item_at fs x).area ≡ e.area
    area-here = areas.areas x ∙ ap (λ (t : Item). t.area) given-here

    stays : (i : ℕ) → i ≢ x → occurs i (listed.free_lists k) ≡ 0 → item_at fs i ≡ item_at es i
    stays i ne none = pushed.others i ne (omega (arith, none, (listed.lists k few).2 i)) ∙ given-other i ne

    area-there : (i : ℕ) → i ≢ x → (item_at fs i).area ≡ (item_at es i).area
    area-there i ne = areas.areas i ∙ ap (λ (t : Item). t.area) (given-other i ne)

    grown-own : (i : ℕ) → 0 < occurs i (members pushed.grown)
        → IsSolid (item_at fs i).area × (list_of o (item_sides (item_at fs i)) ≡ k)
    grown-own i h = elim (cases_eq i x) [
      | inl is ↦
          subst (λ n. IsSolid (item_at fs n).area × (list_of o (item_sides (item_at fs n)) ≡ k)) (sym is)
          (subst (λ (r : Rectangle). IsSolid r × (list_of o (box_sides (box_of r)) ≡ k)) (sym area-here) (exact, own))
      | inr ne ↦
          subst (λ (r : Rectangle). IsSolid r × (list_of o (box_sides (box_of r)) ≡ k)) (sym (area-there i ne))
          (of_own i (omega (arith, h, pushed.has i, same-ne i x ne)))
    ]

    grown-sorted : IsSorted fs pushed.grown
    grown-sorted =
        sorted-by fs (cell_of (item_sides e)) pushed.grown (list-cells o fs k pushed.grown e.area exact own grown-own)
        (subst (λ (t : Item). IsRouted fs (cell_of (item_sides t)) pushed.grown) given-here pushed.routed)

    put-relisted : IsRelisted o heads heads' es fs listed x k (members pushed.grown)
    put-relisted = record {
      few = few;
      long = long;
      list = (pushed.grown, subst (λ n. IsHeap fs (tag_of k) n pushed.grown) (sym head) pushed.heap, λ i. refl, grown-sorted);
      heads_stay = other_heads;
      has = λ i ne. omega (arith, pushed.has i, same-ne i x ne, (listed.lists k few).2 i);
      once = omega (arith, pushed.has x, same-self x, nowhere k few, (listed.lists k few).2 x);
      areas = area-there;
      frees = λ i ne. areas.frees i ∙ ap (λ (t : Item). t.is_free) (given-other i ne);
      others = stays;
      elsewhere = λ j ne l. nowhere j l;
      own = λ h. (free-here, ap (λ (r : Rectangle). list_of o (box_sides (box_of r))) area-here ∙ own);
      each = λ f. (omega (arith, pushed.has x, same-self x), subst IsSolid (sym area-here) exact);
    }

    not_unused : (i : ℕ) → 0 < occurs i claimed.kept.unused_list → i ≢ x
    not_unused i h is = omega (arith, h, here, same-self x, ap (λ n. occurs n claimed.kept.unused_list) is)

    unused-stays : (i : ℕ) → 0 < occurs i claimed.kept.unused_list → item_at fs i ≡ item_at es i
    unused-stays i h = stays i (not_unused i h) (elim (cases_eq (occurs i (listed.free_lists k)) 0) [
      | inl none ↦ none
      | inr some ↦ absurd (both_ways _
          (unused_list-idle (λ j. same j x) o (record { entries = es; heads = heads; unused = unused; used = used }) claimed.kept i h)
          (listed.own k i few (omega (arith, some))).0)
    ])

    pub put-kept : AreKept o (record { entries = fs; heads = heads'; unused = unused; used = used })
    put-kept = record {
      listed = relisted o heads heads' es fs listed x k (members pushed.grown) put-relisted;
      unused_list = claimed.kept.unused_list;
      chain = idle-frame es fs unused.number claimed.kept.unused_list (omega (arith, long))
          (λ i h. ap (λ (t : Item). t.up) (unused-stays i h)) claimed.kept.chain;
      each = λ i l. each_by i l (cases_eq i x);
      used = omega (arith, claimed.kept.used, long);
    }
      where
        each_by : (i : ℕ) → i < length fs → (i ≡ x) ⊎ (i ≢ x)
            → occurs i claimed.kept.unused_list + 0 + free_count (item_at fs i) ≡ 1
        each_by i l (inl is) =
            omega (
              arith,
              here,
              same-self x,
              ap (λ n. occurs n claimed.kept.unused_list) is,
              ap (λ n. free_count (item_at fs n)) is,
              count-of_free (item_at fs x) free-here,
            )
        each_by i l (inr ne) =
            omega (
              arith,
              claimed.kept.each i (omega (arith, l, long)),
              same-ne i x ne,
              ap (λ t. cond {A = ℕ} t 1 0) (areas.frees i ∙ ap (λ (t : Item). t.is_free) (given-other i ne)),
            )

    pub put-boxes : AreSameBoxes (free_item_boxes fs) (item_box e ∷ free_item_boxes es)
    put-boxes =
        subst (λ bs. AreSameBoxes bs (item_box e ∷ free_item_boxes es))
        (sym (boxes-kept given fs areas.long areas.areas areas.frees)) (boxes-with es x e claimed.inside idle free)

  -- The same, with what the code reads of them.
  module _ (gs : List Item) (is : gs ≡ given) (tag first : ℕ) (tag_is : tag ≡ tag_of k) (first_is : first ≡ (head_of heads k).number) where
    pub can-push : CanPush gs tag first no_slot x pushed_heap
    can-push =
        subst (λ ts. CanPush ts tag first no_slot x pushed_heap) (sym is)
        (subst₂ (λ m n. CanPush given m n no_slot x pushed_heap) (sym tag_is) (sym first_is) put-can)

    module _ (fs : List Item) (top : ℕ) (done : HasPushed gs fs tag top x pushed_heap) where
      pub put-some : length fs ≡ length gs → top ≢ no_slot
      put-some same_length none =
          let few_entries : length fs ≤ no_slot = omega (arith, same_length, ap length is, length-set es x e, listed.short) in
          let empty = none-of fs tag top done.grown few_entries done.heap none in
          omega (arith, done.has x, same-self x, ap (λ (h : Heap). occurs x (members h)) empty)

      -- A list of few entries can be held.
      pub put-few : length fs ≡ length gs → length es ≤ 8 → (l : Link) → top ≡ l.number → CanHold heads k l
      put-few same_length small l is_top =
          let pushed = subst₂ (λ ts m. HasPushed ts fs m top x pushed_heap) is tag_is done in
          let grown = subst (λ n. IsHeap fs (tag_of k) n pushed.grown) is_top pushed.heap in
          let t = top-of fs (tag_of k) l.number pushed.grown grown (λ none. put-some same_length (is_top ∙ none)) in
          let inside : 0 < occurs l.number (members pushed.grown) =
          omega (arith, ap (λ (h : Heap). occurs l.number (members h)) t.is, same-self l.number) in
          holds es heads k l fs (tag_of k) pushed.grown small (omega (arith, same_length, ap length is, length-set es x e)) grown
          (λ j below. (
            listed.free_lists j,
            listed.lists j below,
            λ on. elim (cases_eq l.number x) [
              | inl same ↦ absurd (omega (arith, subst (λ n. 0 < occurs n (listed.free_lists j)) same on, nowhere j below))
              | inr ne ↦
                  sym (listed.own j l.number below on).1
                  ∙ (listed.own k l.number few (omega (
                    arith,
                    inside,
                    pushed.has l.number,
                    same-ne l.number x ne,
                    (listed.lists k few).2 l.number,
                  ))).1
            ],
          ))

      pub has-put : KeepsAreas gs fs → (heads' : List Link) → (head_of heads' k).number ≡ top
          → ((j : ℕ) → j ≢ k → head_of heads' j ≡ head_of heads j)
          → AreKept o (record { entries = fs; heads = heads'; unused = unused; used = used })
          × AreSameBoxes (free_item_boxes fs) (item_box e ∷ free_item_boxes es)
      has-put areas heads' head other_heads =
          let pushed = subst₂ (λ ts m. HasPushed ts fs m top x pushed_heap) is tag_is done in
          let kept_areas = subst (λ ts. KeepsAreas ts fs) is areas in
          (put-kept heads' fs top pushed kept_areas head other_heads, put-boxes heads' fs top pushed kept_areas head other_heads)

-- An entry for a free box that hangs nowhere.
abbrev pub lone_box : Rectangle → FreeBox
lone_box area = record { area = area; up = no_link; left = no_link; right = no_link; is_fork = false }

-- As the code puts a box: gs are the entries once it is written, and `new` those once it has joined its list.
module _ (o : Options) (heads : List Link) (bs gs new : List FreeBox) (unused : Link) (used x k : ℕ) (area : Rectangle)
    (claimed : IsClaimed o (record { entries = map stored_item bs; heads = heads; unused = unused; used = used }) x)
    (exact : IsSolid area) (own : list_of o (box_sides (box_of area)) ≡ k) (few : k < 2704) (tag first : ℕ)
    (written : gs ≡ slice_set bs x (lone_box area)) (tag_is : tag ≡ tag_of k) (first_is : first ≡ (head_of heads k).number) where
  written-items : map stored_item gs ≡ slice_set (map stored_item bs) x (stored_item (lone_box area))
  written-items = ap (map stored_item) written ∙ map-set stored_item bs x (lone_box area)

  abbrev pub list_heap : Heap
  list_heap =
      pushed_heap o heads (map stored_item bs) unused used x k (stored_item (lone_box area)) claimed (exact-width area exact) exact own few

  pub box-can : CanPush (map stored_item gs) tag first no_slot x list_heap
  box-can =
      can-push o heads (map stored_item bs) unused used x k (stored_item (lone_box area)) claimed (exact-width area exact) exact own few
      (map stored_item gs) written-items tag first tag_is first_is

  module _ (top : ℕ)
      (pushes : (h : Heap) → CanPush (map stored_item gs) tag first no_slot x h →
      HasPushed (map stored_item gs) (map stored_item new) tag top x h)
      (areas : KeepsAreas (map stored_item gs) (map stored_item new)) where
    pub box-long : length new ≡ length bs
    box-long =
        omega (
          arith,
          areas.long,
          length-map new stored_item,
          length-map gs stored_item,
          ap length written,
          length-set bs x (lone_box area),
        )

    pub box-some : top ≢ no_slot
    box-some =
        put-some o heads (map stored_item bs) unused used x k (stored_item (lone_box area)) claimed (exact-width area exact) exact own few
        (map stored_item gs) written-items tag first tag_is first_is (map stored_item new) top (pushes list_heap box-can) areas.long

    pub box-few : length bs ≤ 8 → (l : Link) → top ≡ l.number → CanHold heads k l
    box-few small =
        put-few o heads (map stored_item bs) unused used x k (stored_item (lone_box area)) claimed (exact-width area exact) exact own few
        (map stored_item gs) written-items tag first tag_is first_is (map stored_item new) top (pushes list_heap box-can) areas.long
        (omega (arith, small, length-map bs stored_item))

    pub box-put : (heads' : List Link) → (head_of heads' k).number ≡ top → ((j : ℕ) → j ≢ k → head_of heads' j ≡ head_of heads j)
        → AreKept o (record { entries = map stored_item new; heads = heads'; unused = unused; used = used })
        × AreSameBoxes (free_item_boxes (map stored_item new)) (box_of area ∷ free_item_boxes (map stored_item bs))
    box-put heads' =
        has-put o heads (map stored_item bs) unused used x k (stored_item (lone_box area)) claimed (exact-width area exact) exact own few
        (map stored_item gs) written-items tag first tag_is first_is (map stored_item new) top (pushes list_heap box-can) areas heads'
