-- The free boxes of the simple allocator, after a box left its list.
use Rattle.std.proofs.Common.{◌≡◌, ◌≢◌, ℕ, ◌+◌, ◌<◌, ◌≤◌, ◌⊎◌, inl, inr, true, false, not, List, ◌∷◌, length, slice_set, cond, refl, sym}
use Rattle.std.proofs.Common.{ap, ◌∙◌, subst, arith}
use Rattle.std.specs.Prelude.{◌==◌, if◌then◌else◌}
use Rattle.std.proofs.lemmas.Bool.{cases_eq, both_ways, cond-true, cond-false, eq-eqb, ne_eqb}
use Rattle.std.proofs.lemmas.List.{length-set}
use Rattle.atlas_model.specs.declared.geometry.Rectangle.{Rectangle}
use Rattle.atlas_search.specs.declared.link.Link.{Link}
use Rattle.atlas_model.specs.Boxes.{AreSameBoxes}
use Rattle.guillotiere.specs.FreeBoxes.BoxCalls.{HasUnlisted}
use Rattle.guillotiere.specs.FreeBoxes.BoxShelves.{BoxShelf, IsIdleFrom, free_item_boxes, free_count, idle_item, AreKept}
use Rattle.atlas_model.specs.Choice.{Options}
use Rattle.atlas_model.specs.Pixels.{box_of}
use Rattle.atlas_search.specs.HeapCalls.{CanRemove, HasRemoved, KeepsAreas}
use Rattle.atlas_search.specs.Heaps.{Heap, IsHeap, members, tag_of}
use Rattle.atlas_search.specs.Items.{Item, item_at, item_sides}
use Rattle.atlas_search.specs.Numbers.{occurs, no_slot}
use Rattle.atlas_search.specs.Tables.{head_of, is_used_at, CanHold}
use Rattle.atlas_search.proofs.HeapLemmas.Frames.{heap-frame}
use Rattle.atlas_search.proofs.HeapLemmas.Removing.{top-only}
use Rattle.atlas_search.proofs.SearchLemmas.BandLaws.{list_of-most}
use Rattle.atlas_search.proofs.SearchLemmas.FewHeads.{holds}
use Rattle.atlas_search.proofs.SearchLemmas.Heaps.{listed-some, top-of}
use Rattle.atlas_search.proofs.Occurrences.{same-self, same-ne}
use Rattle.guillotiere.proofs.SimpleLemmas.EntryCounts.{count-of_free, count-of_idle, idle-frame, unused_list-idle}
use Rattle.guillotiere.proofs.SimpleLemmas.HeapLists.{IsRelisted, list_at, relisted}
use Rattle.atlas_search.proofs.SearchLemmas.SortedLists.{removed-sorted, sorted-frame}
use Rattle.guillotiere.proofs.SimpleLemmas.ItemBoxes.{boxes-without, boxes-kept, item_at-same, item_at-other, free-inside}

module _ (o : Options) (v : BoxShelf) (kept : AreKept o v) (x : ℕ) (free : (item_at v.entries x).is_free ≡ true) where
  -- The number of its list.
  abbrev pub own_list : ℕ
  own_list = list_at o v.entries x

  pub own-few : own_list < 2704
  own-few = list_of-most o (item_sides (item_at v.entries x))

  abbrev pub own_heap : Heap
  own_heap = (kept.listed.lists own_list own-few).0

  remove-can : CanRemove v.entries (tag_of own_list) (head_of v.heads own_list).number x own_heap
  remove-can =
      let list = kept.listed.lists own_list own-few in
      record {
        sound = record {
          short = omega (arith, kept.listed.short);
          heap = list.1;
          once = λ i. omega (arith, kept.listed.once own_list i own-few, list.2 i);
          exact = λ i h. kept.listed.exact i (kept.listed.own own_list i own-few (omega (arith, h, list.2 i))).0;
        };
        tagged = omega (arith, kept.listed.short);
        member = omega (arith, kept.listed.each x free, list.2 x);
      }

  pub can-remove : (gs : List Item) → gs ≡ v.entries
      → CanRemove gs (tag_of own_list) (head_of v.heads own_list).number x own_heap
  can-remove gs is =
      subst (λ ts. CanRemove ts (tag_of own_list) (head_of v.heads own_list).number x own_heap) (sym is) remove-can

  own-some : (head_of v.heads own_list).number ≢ no_slot
  own-some =
      listed-some v.entries own_list (head_of v.heads own_list).number (kept.listed.free_lists own_list) x
      (omega (arith, kept.listed.short))
      (kept.listed.lists own_list own-few) (kept.listed.each x free)

  -- What stands above the first of a list is its tag.
  first-up : x ≡ (head_of v.heads own_list).number → (item_at v.entries x).up ≡ tag_of own_list
  first-up first =
      let list = kept.listed.lists own_list own-few in
      let top = top-of v.entries (tag_of own_list) (head_of v.heads own_list).number list.0 list.1 own-some in
      ap (λ n. (item_at v.entries n).up) first
      ∙ (subst (IsHeap v.entries (tag_of own_list) (head_of v.heads own_list).number) top.is list.1).0.2

  pub tagged-first : 4261412864 ≤ (item_at v.entries x).up → x ≡ (head_of v.heads own_list).number
  tagged-first tagged =
      top-only v.entries (tag_of own_list) (head_of v.heads own_list).number x own_heap remove-can
      (omega (arith, tagged, kept.listed.short))

  -- The list of a tag has an entry.
  pub tagged-list : 4261412864 ≤ (item_at v.entries x).up → (item_at v.entries x).up ≡ tag_of own_list
  tagged-list tagged = first-up (tagged-first tagged)

  pub tagged-used : is_used_at v.heads own_list ≡ true
  tagged-used = ap not (ne_eqb (head_of v.heads own_list).number no_slot own-some)

  -- As the code removes it: gs are the entries that it reads, and fs those that it leaves.
  module _ (gs fs : List Item) (is : gs ≡ v.entries) (rest : ℕ)
      (removes : (tag top : ℕ) (h : Heap) → CanRemove gs tag top x h → HasRemoved gs fs tag top rest x h) (kept_areas : KeepsAreas gs fs)
    where
      removed : HasRemoved v.entries fs (tag_of own_list) (head_of v.heads own_list).number rest x own_heap
      removed =
          subst (λ ts. HasRemoved ts fs (tag_of own_list) (head_of v.heads own_list).number rest x own_heap) is
          (removes (tag_of own_list) (head_of v.heads own_list).number own_heap (can-remove gs is))

      areas : KeepsAreas v.entries fs
      areas = subst (λ ts. KeepsAreas ts fs) is kept_areas

      unlisted : (heads : List Link)
          → (head_of heads own_list).number ≡ (if x == (head_of v.heads own_list).number then rest else (head_of v.heads own_list).number)
          → ((j : ℕ) → j ≢ own_list → head_of heads j ≡ head_of v.heads j)
          → HasUnlisted o v kept (record { entries = fs; heads = heads; unused = v.unused; used = v.used }) x
      unlisted heads head stay = record {
        k = own_list;
        own = refl;
        rest = removed.less;
        heap = subst (λ n. IsHeap fs (tag_of own_list) n removed.less) (sym head) removed.heap;
        sorted = removed-sorted v.entries fs own_heap removed.less removed.routed areas.areas (λ i h. omega (arith, h, removed.has i))
            (kept.listed.lists own_list own-few).3;
        has = λ i. omega (arith, removed.has i, (kept.listed.lists own_list own-few).2 i);
        heads = stay;
        areas = areas;
        others = λ i none. removed.others i (omega (arith, none, (kept.listed.lists own_list own-few).2 i));
        unused = refl;
        used = refl;
      }

      -- The list of one of few entries can be held.
      pub unlist-few : length v.entries ≤ 8 → 4261412864 ≤ (item_at v.entries x).up → (l : Link) → rest ≡ l.number
          → CanHold v.heads own_list l
      unlist-few small tagged l is_rest = elim (cases_eq l.number no_slot) [
        | inl none ↦ inl none
        | inr some ↦
            let is = subst (λ n. IsHeap fs (tag_of own_list) n removed.less)
            (cond-true _ rest (head_of v.heads own_list).number (eq-eqb x _ (tagged-first tagged)) ∙ is_rest) removed.heap in
            let t = top-of fs (tag_of own_list) l.number removed.less is some in
            let inside : 0 < occurs l.number (members removed.less) =
            omega (arith, ap (λ (h : Heap). occurs l.number (members h)) t.is, same-self l.number) in
            let here : 0 < occurs l.number (kept.listed.free_lists own_list) =
            omega (arith, inside, removed.has l.number, (kept.listed.lists own_list own-few).2 l.number) in
            holds v.entries v.heads own_list l fs (tag_of own_list) removed.less small areas.long is
            (λ j below. (
              kept.listed.free_lists j,
              kept.listed.lists j below,
              λ on.
                  sym (kept.listed.own j l.number below on).1 ∙ (kept.listed.own own_list l.number own-few here).1,
            ))
      ]

      -- It was the first.
      pub first-unlisted : (heads : List Link) → 4261412864 ≤ (item_at v.entries x).up → (head_of heads own_list).number ≡ rest
          → ((j : ℕ) → j ≢ own_list → head_of heads j ≡ head_of v.heads j)
          → HasUnlisted o v kept (record { entries = fs; heads = heads; unused = v.unused; used = v.used }) x
      first-unlisted heads tagged head stay =
          unlisted heads (head ∙ sym (cond-true _ rest (head_of v.heads own_list).number (eq-eqb x _ (tagged-first tagged)))) stay

      -- It hung below another.
      pub next-unlisted : (item_at v.entries x).up < 4261412864
          → HasUnlisted o v kept (record { entries = fs; heads = v.heads; unused = v.unused; used = v.used }) x
      next-unlisted below =
          unlisted v.heads
          (sym (cond-false _ rest (head_of v.heads own_list).number (ne_eqb x _ (λ first. omega (arith, below, first-up first)))))
          (λ j ne. refl)

  -- Its entry is unused from now on.
  module _ (w : BoxShelf) (u : HasUnlisted o v kept w x) (used' : ℕ) (less : used' + 1 ≡ v.used) where
    abbrev emptied : List Item
    emptied = slice_set w.entries x (idle_item v.unused.number)

    gone-few : u.k < 2704
    gone-few = omega (arith, u.own, own-few)

    emptied-long : length emptied ≡ length v.entries
    emptied-long = length-set w.entries x (idle_item v.unused.number) ∙ u.areas.long

    gone-inside : x < length v.entries
    gone-inside = free-inside v.entries x free

    emptied-here : item_at emptied x ≡ idle_item v.unused.number
    emptied-here = item_at-same w.entries x (idle_item v.unused.number) (omega (arith, gone-inside, u.areas.long))

    emptied-other : (i : ℕ) → i ≢ x → item_at emptied i ≡ item_at w.entries i
    emptied-other i ne = item_at-other w.entries x i (idle_item v.unused.number) ne

    on : 0 < occurs x (kept.listed.free_lists u.k)
    on = subst (λ n. 0 < occurs x (kept.listed.free_lists n)) (sym u.own) (kept.listed.each x free)

    gone : occurs x (members u.rest) ≡ 0
    gone = omega (arith, u.has x, same-self x, kept.listed.once u.k x gone-few)

    emptied-stays : (i : ℕ) → i ≢ x → occurs i (kept.listed.free_lists u.k) ≡ 0 → item_at emptied i ≡ item_at v.entries i
    emptied-stays i ne none = emptied-other i ne ∙ u.others i none

    emptied-frees : (i : ℕ) → i ≢ x → (item_at emptied i).is_free ≡ (item_at v.entries i).is_free
    emptied-frees i ne = ap (λ (t : Item). t.is_free) (emptied-other i ne) ∙ u.areas.frees i

    idle-now : (item_at emptied x).is_free ≡ false
    idle-now = ap (λ (t : Item). t.is_free) emptied-here

    rest-stays : (i : ℕ) → 0 < occurs i (members u.rest) → item_at emptied i ≡ item_at w.entries i
    rest-stays i h = emptied-other i (λ e. omega (arith, h, gone, ap (λ n. occurs n (members u.rest)) e))

    removed-relisted : IsRelisted o v.heads w.heads v.entries emptied kept.listed x u.k (members u.rest)
    removed-relisted = record {
      few = gone-few;
      long = emptied-long;
      list = (
        u.rest,
        heap-frame w.entries emptied (tag_of u.k) (head_of w.heads u.k).number u.rest (length-set w.entries x (idle_item v.unused.number))
            rest-stays u.heap,
        λ i. refl,
        sorted-frame w.entries emptied u.rest rest-stays u.sorted,
      );
      heads_stay = u.heads;
      has = λ i ne. omega (arith, u.has i, same-ne i x ne);
      once = omega (arith, gone);
      areas = λ i ne. ap (λ (t : Item). t.area) (emptied-other i ne) ∙ u.areas.areas i;
      frees = emptied-frees;
      others = emptied-stays;
      elsewhere = λ j ne l. elim (cases_eq (occurs x (kept.listed.free_lists j)) 0) [
        | inl none ↦ none
        | inr some ↦ absurd (ne (sym (kept.listed.own j x l (omega (arith, some))).1 ∙ sym u.own))
      ];
      own = λ h. absurd (omega (arith, h, gone));
      each = λ f. absurd (both_ways _ idle-now f);
    }

    not-unused : occurs x kept.unused_list ≡ 0
    not-unused = omega (arith, kept.each x gone-inside, count-of_free (item_at v.entries x) free)

    emptied-unused : (i : ℕ) → 0 < occurs i kept.unused_list → item_at emptied i ≡ item_at v.entries i
    emptied-unused i h =
        emptied-stays i (λ e. omega (arith, h, not-unused, ap (λ n. occurs n kept.unused_list) e))
        (elim (cases_eq (occurs i (kept.listed.free_lists u.k)) 0) [
          | inl none ↦ none
          | inr some ↦ absurd (both_ways _ (unused_list-idle (λ j. 0) o v kept i h)
              (kept.listed.own u.k i gone-few (omega (arith, some))).0)
        ])

    pub remove-kept : (at : Link) → at.number ≡ x
        → AreKept o (record { entries = emptied; heads = w.heads; unused = at; used = used' })
    remove-kept at is = record {
      listed = relisted o v.heads w.heads v.entries emptied kept.listed x u.k (members u.rest) removed-relisted;
      unused_list = x ∷ kept.unused_list;
      chain = (
        is,
        omega (arith, gone-inside, emptied-long),
        subst (λ n. IsIdleFrom emptied n kept.unused_list) (ap (λ (t : Item). t.up) (sym emptied-here))
            (idle-frame v.entries emptied v.unused.number kept.unused_list (omega (arith, emptied-long))
            (λ i h. ap (λ (t : Item). t.up) (emptied-unused i h)) kept.chain),
      );
      each = λ i l. each_by i l (cases_eq i x);
      used = omega (arith, kept.used, less, emptied-long);
    }
      where
        each_by : (i : ℕ) → i < length emptied → (i ≡ x) ⊎ (i ≢ x)
            → occurs i (x ∷ kept.unused_list) + 0 + free_count (item_at emptied i) ≡ 1
        each_by i l (inl e) =
            omega (
              arith,
              same-self x,
              not-unused,
              ap (λ n. occurs n (x ∷ kept.unused_list)) e,
              ap (λ n. free_count (item_at emptied n)) e,
              count-of_idle (item_at emptied x) idle-now,
            )
        each_by i l (inr ne) =
            omega (
              arith,
              same-ne i x ne,
              kept.each i (omega (arith, l, emptied-long)),
              ap (λ t. cond {A = ℕ} t 1 0) (emptied-frees i ne),
            )

    pub remove-boxes : (area : Rectangle) → (item_at v.entries x).area ≡ area
        → AreSameBoxes (box_of area ∷ free_item_boxes emptied) (free_item_boxes v.entries)
    remove-boxes area is =
        subst (λ bs. AreSameBoxes (box_of area ∷ free_item_boxes emptied) bs)
        (boxes-kept v.entries w.entries u.areas.long u.areas.areas u.areas.frees)
        (subst (λ (r : Rectangle). AreSameBoxes (box_of r ∷ free_item_boxes emptied) (free_item_boxes w.entries)) (u.areas.areas x ∙ is)
        (boxes-without w.entries x (idle_item v.unused.number) (omega (arith, gone-inside, u.areas.long)) (u.areas.frees x ∙ free) refl))
