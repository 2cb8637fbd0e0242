-- Slots join and leave lists.
use Rattle.std.proofs.Common.{ℕ, ◌<◌, ◌≤◌, ◌≡◌, ◌≢◌, ◌⊎◌, ◌∷◌, List, length, map, Bool, true, false, refl, sym, ap}
use Rattle.std.proofs.Common.{subst, ◌∙◌, inl, inr, arith}
use Rattle.std.specs.Prelude.{if◌then◌else◌, ◌==◌}
use Rattle.std.proofs.lemmas.Bool.{cases_eq, cond-true, cond-false, eq-eqb, ne_eqb}
use Rattle.std.proofs.lemmas.List.{length-map}
use Rattle.std.proofs.lemmas.Simd.{map-map}
use Rattle.atlas_model.specs.Boxes.{box_sides}
use Rattle.atlas_model.specs.Choice.{Options}
use Rattle.atlas_model.specs.Pixels.{box_of}
use Rattle.atlas_model.specs.Trees.{most_slots}
use Rattle.atlas_search.specs.declared.cells.Cell.{Cell}
use Rattle.atlas_search.specs.declared.link.Link.{Link}
use Rattle.atlas_search.specs.Bands.{list_of}
use Rattle.atlas_search.specs.Forks.{IsListed, IsSorted, cell_of}
use Rattle.atlas_search.specs.HeapCalls.{CanPush, CanRemove, HasPushed, HasRemoved, IsSoundHeap}
use Rattle.atlas_search.specs.Heaps.{Heap, IsHeap, members, tag_of}
use Rattle.atlas_search.specs.Items.{Item, item_at, item_sides}
use Rattle.atlas_search.specs.Numbers.{no_slot, occurs, same, without, lists_with}
use Rattle.atlas_search.specs.Rectangles.{IsSolid}
use Rattle.atlas_search.specs.Tables.{head_of, is_used_at, CanHold}
use Rattle.atlas_store.specs.declared.slots.Slot.{Slot}
use Rattle.atlas_store.specs.declared.slots.Ring.{Ring}
use Rattle.atlas_store.specs.declared.slots.NodeKind.TheVariants as kind
use Rattle.atlas_store.specs.declared.slots.lists.Recent.{Recent}
use Rattle.atlas_store.specs.Slots.{nodes, rings, node_at, ring_at, use_count, node_of, ring_of}
use Rattle.atlas_store.specs.Slots.Links.{listed, lists_without, unlisted}
use Rattle.atlas_store.specs.Slots.Lists.{AreFiled, IsLinked, IsRecent, Places, entries, node_sides}
use Rattle.atlas_store.specs.Slots.Picks.{AreExact, IsFreeSlot, unlinked_slot}
use Rattle.atlas_search.proofs.Occurrences.{occurs-without, same-self, same-ne, without-none}
use Rattle.atlas_search.proofs.SearchLemmas.BandLaws.{list_of-most}
use Rattle.atlas_search.proofs.HeapLemmas.Removing.{top-only, up-of}
use Rattle.atlas_search.proofs.SearchLemmas.FewHeads.{holds}
use Rattle.atlas_search.proofs.SearchLemmas.Heaps.{none-of, top-of}
use Rattle.atlas_search.proofs.SearchLemmas.SortedLists.{HasCell, list-cells, removed-sorted, routed-by, sorted-by}
use Rattle.atlas_store.proofs.SlotLemmas.Entries.{entries-of}
use Rattle.atlas_store.proofs.StoreLemmas.FiledSlots.{AreFiled-listed, AreFiled-unlisted, AreFreeOnce, detached-nowhere, is-used}
use Rattle.atlas_store.proofs.StoreLemmas.FiledSlots.{length-rings, list_for, listed-kind, listed-list, listed-one, listed-own, used-inside}
use Rattle.atlas_store.proofs.StoreLemmas.SlotLists.{area-is, item-is, items, items-length, sides-is}

-- No slot, or one of the slots xs.
abbrev pub IsNear : ℕ → List ℕ → Type 0
IsNear near xs = (near ≡ no_slot) ⊎ (0 < occurs near xs)

-- What the entries of slots are but for their links tells the nodes.
pub nodes-bare : (slots new : List Slot) → map unlinked_slot new ≡ map unlinked_slot slots → nodes new ≡ nodes slots
nodes-bare slots new e =
    sym (map-map node_of unlinked_slot new) ∙ ap (map node_of) e
    ∙ map-map node_of unlinked_slot slots

abbrev ring_from : Item → Ring
ring_from e =
    record {
      up = record { number = e.up };
      left = record { number = e.left };
      right = record { number = e.right };
      is_fork = e.is_fork;
    }

ring-same : (slots new : List Slot) (k : ℕ) → item_at (items new) k ≡ item_at (items slots) k
    → ring_at (rings new) k ≡ ring_at (rings slots) k
ring-same slots new k e = ap ring_from (sym (item-is new k) ∙ e ∙ item-is slots k)

heap-linked : (slots new : List Slot) (k : ℕ) (first : Link) (xs : List ℕ) (h : Heap) → nodes new ≡ nodes slots
    → IsHeap (items new) (tag_of k) first.number h → ((i : ℕ) → occurs i (members h) ≡ occurs i xs) → IsSorted (items new) h
    → IsLinked (nodes slots) (rings new) k first xs
unfolding IsLinked
heap-linked slots new k first xs h en is same sorted =
    let e = sym (entries-of new) ∙ ap (λ ns. entries ns (rings new)) en in (
      h,
      subst (λ es. IsHeap es (tag_of k) first.number h) e is,
      same,
      subst (λ es. IsSorted es h) e sorted,
    )

-- The list as a heap of entries.
listed-heap : (slots : List Slot) (k : ℕ) (first : Link) (xs : List ℕ) → IsLinked (nodes slots) (rings slots) k first xs
    → (h : Heap) × IsHeap (items slots) (tag_of k) first.number h × ((i : ℕ) → occurs i (members h) ≡ occurs i xs)
    × IsSorted (items slots) h
unfolding IsLinked
listed-heap slots k first xs h = (
  h.0,
  subst (λ es. IsHeap es (tag_of k) first.number h.0) (entries-of slots) h.1,
  h.2,
  subst (λ es. IsSorted es h.0) (entries-of slots) h.3,
)

-- The free slots of a list have the cell of one of them.
cells-of : (o : Options) (slots new : List Slot) (i : ℕ) (g : Heap) → nodes new ≡ nodes slots → AreExact (nodes slots)
    → IsFreeSlot (nodes slots) i
    → ((k : ℕ) → 0 < occurs k (members g)
    → IsFreeSlot (nodes slots) k × (list_for o (node_at (nodes slots) k) ≡ list_for o (node_at (nodes slots) i)))
    → HasCell (items new) (cell_of (item_sides (item_at (items slots) i))) g
cells-of o slots new i g en exact free all =
    list-cells o (items new) (list_for o (node_at (nodes slots) i)) g (item_at (items slots) i).area
    (subst IsSolid (sym (area-is slots i)) (exact i free)) (ap (list_of o) (sides-is slots i))
    (λ k l. (
      subst IsSolid (sym (area k)) (exact k (all k l).0),
      ap (λ r. list_of o (box_sides (box_of r))) (area k) ∙ (all k l).1,
    ))
  where
    area : (k : ℕ) → (item_at (items new) k).area ≡ (node_at (nodes slots) k).area
    area k = area-is new k ∙ ap (λ ns. (node_at ns k).area) en

sound-of : (slots : List Slot) (k : ℕ) (first : Link) (xs : List ℕ) (h : Heap) → length slots ≤ most_slots → AreExact (nodes slots)
    → AreFreeOnce (nodes slots) xs → IsHeap (items slots) (tag_of k) first.number h
    → ((i : ℕ) → occurs i (members h) ≡ occurs i xs) → IsSoundHeap (items slots) (tag_of k) first.number h
sound-of slots k first xs h short exact own is same = record {
  short = omega (arith, short, items-length slots);
  heap = is;
  once = λ i. omega (arith, own.once i, same i);
  exact = λ i l. subst IsSolid (sym (area-is slots i)) (exact i (own.free i (omega (arith, l, same i))));
}

module _ (o : Options) (slots : List Slot) (heads : List Link) (i : ℕ) (free : (node_at (nodes slots) i).kind ≡ kind.Free)
    (exact : AreExact (nodes slots)) (short : length slots ≤ most_slots) (unused : Link) (p : Places)
    (f : AreFiled o (nodes slots) (rings slots) heads unused p) where
  abbrev m : ℕ
  m = list_for o (node_at (nodes slots) i)

  below : m < 2704
  below = list_of-most o (node_sides (node_at (nodes slots) i))

  abbrev first : Link
  first = head_of heads m

  inside : i < length (items slots)
  inside = omega (arith, used-inside (nodes slots) i (omega (arith, ap use_count free)), length-map slots node_of, items-length slots)

  h : (h : Heap) × IsHeap (items slots) (tag_of m) first.number h × ((k : ℕ) → occurs k (members h) ≡ occurs k (p.free_lists m))
      × IsSorted (items slots) h
  h = listed-heap slots m first (p.free_lists m) ((f.free m below).links)

  sound : IsSoundHeap (items slots) (tag_of m) first.number h.0
  sound = sound-of slots m first (p.free_lists m) h.0 short exact
      (listed-own o (nodes slots) (rings slots) heads unused p f m below) h.1 h.2

  abbrev cell : Cell
  cell = cell_of (item_sides (item_at (items slots) i))

  of-list : (k : ℕ) → 0 < occurs k (members h.0) → IsFreeSlot (nodes slots) k × (list_for o (node_at (nodes slots) k) ≡ m)
  of-list k l =
      let on : 0 < occurs k (p.free_lists m) = omega (arith, l, h.2 k) in (
        listed-kind o (nodes slots) (rings slots) heads unused p f m k below on,
        sym (listed-list o (nodes slots) (rings slots) heads unused p f m k below on),
      )

  -- Each list with its slots; one of these slots only where the list is its own.
  lists-of : (x : ℕ) → ((k : ℕ) → k < 2704 → 0 < occurs x (p.free_lists k) → k ≡ m)
      → (k : ℕ) → k < 2704 → (xs : List ℕ) × IsListed (items slots) k (head_of heads k).number xs × (0 < occurs x xs → k ≡ m)
  lists-of x own k l = (p.free_lists k, listed-heap slots k (head_of heads k) (p.free_lists k) ((f.free k l).links), own k l)

  list-at : (k x : ℕ) → k < 2704 → 0 < occurs x (p.free_lists k) → k ≡ list_for o (node_at (nodes slots) x)
  list-at k x l here = listed-list o (nodes slots) (rings slots) heads unused p f k x l here

  -- What stands in its list stands in no other.
  apart : (x : ℕ) → 0 < occurs x (members h.0) → (k : ℕ) → k < 2704 → 0 < occurs x (p.free_lists k) → k ≡ m
  apart x here k l there = list-at k x l there ∙ sym (list-at m x below (omega (arith, here, h.2 x)))

  -- It joins its list.
  module _ (kept : p.detached i ≡ true) (near : ℕ) (is_near : IsNear near (p.free_lists m)) where
    none : occurs i (p.free_lists m) ≡ 0
    none = detached-nowhere o (nodes slots) (rings slots) heads unused p f m i below kept

    can : CanPush (items slots) (tag_of m) first.number near i h.0
    can = record {
      sound = sound;
      inside = inside;
      solid = subst IsSolid (sym (area-is slots i)) (exact i free);
      apart = omega (arith, none, h.2 i);
      near = elim is_near [ inl e ↦ inl e | inr l ↦ inr (omega (arith, l, h.2 near)) ];
      routed = routed-by (items slots) cell h.0 (cells-of o slots slots i h.0 refl exact free of-list) h.3;
    }

    pub joins : (g : Heap) × CanPush (items slots) (tag_of m) first.number near i g
    joins = (h.0, can)

    -- A list that a slot joined begins with one.
    pub joined-some : (new : List Slot) (top : ℕ)
        → ((g : Heap) → CanPush (items slots) (tag_of m) first.number near i g → HasPushed (items slots) (items new) (tag_of m) top i g)
        → length new ≡ length slots → top ≢ no_slot
    joined-some new top pushes long e =
        let w = pushes h.0 can in
        let empty = none-of (items new) (tag_of m) top w.grown (omega (arith, short, long, items-length new)) w.heap e in
        omega (arith, w.has i, same-self i, ap (λ (q : Heap). occurs i (members q)) empty)

    -- A list of few slots can be held.
    pub joined-few : length slots ≤ 8 → (new : List Slot) (top : Link)
        → ((g : Heap) → CanPush (items slots) (tag_of m) first.number near i g → HasPushed (items slots) (items new) (tag_of m) top.number i
        g)
        → length new ≡ length slots → CanHold heads m top
    joined-few few new top pushes long =
        let w = pushes h.0 can in
        holds (items slots) heads m top (items new) (tag_of m) w.grown (omega (arith, few, items-length slots))
        (omega (arith, long, items-length slots, items-length new)) w.heap
        (lists-of top.number (λ k l on. elim (cases_eq top.number i) [
          | inl e ↦ list-at k i l (subst (λ n. 0 < occurs n (p.free_lists k)) e on)
          | inr ne ↦
              let t = top-of (items new) (tag_of m) top.number w.grown w.heap (joined-some new top.number pushes long) in
              let in_grown : 0 < occurs top.number (members w.grown) =
              omega (arith, ap (λ (q : Heap). occurs top.number (members q)) t.is, same-self top.number) in
              apart top.number (omega (arith, in_grown, w.has top.number, same-ne top.number i ne)) k l on
        ]))

    pub joined : (new : List Slot) (heads' : List Link) (top : Link)
        → ((g : Heap) → CanPush (items slots) (tag_of m) first.number near i g → HasPushed (items slots) (items new) (tag_of m) top.number i
        g)
        → map unlinked_slot new ≡ map unlinked_slot slots → length new ≡ length slots → head_of heads' m ≡ top
        → ((k : ℕ) → k ≢ m → head_of heads' k ≡ head_of heads k)
        → AreFiled o (nodes new) (rings new) heads' unused (listed p m i)
    joined new heads' top pushes bare long head firsts =
        let w = pushes h.0 can in
        let en = nodes-bare slots new bare in
        rw en (AreFiled-listed o (nodes slots) (rings slots) (rings new) heads heads' unused p f i m refl free firsts kept
        (record {
          same_length = length-rings slots new long;
          links = rw head (heap-linked slots new m top (i ∷ p.free_lists m) w.grown en w.heap
              (λ k. omega (arith, w.has k, h.2 k)) (sorted-by (items new) cell w.grown (cells-of o slots new i w.grown en exact free grown)
              w.routed));
          others = λ k ne z. ring-same slots new k (w.others k ne (omega (arith, z, h.2 k)));
        }))
      where
        grown : (k : ℕ) → 0 < occurs k (members (pushes h.0 can).grown)
            → IsFreeSlot (nodes slots) k × (list_for o (node_at (nodes slots) k) ≡ m)
        grown k l = elim (cases_eq k i) [
          | inl e ↦ subst (λ n. IsFreeSlot (nodes slots) n × (list_for o (node_at (nodes slots) n) ≡ m)) (sym e) (free, refl)
          | inr ne ↦ of-list k (omega (arith, l, (pushes h.0 can).has k, same-ne k i ne))
        ]

  -- It leaves its list.
  module _ (kept : p.detached i ≡ false) where
    on : 0 < occurs i (p.free_lists m)
    on = omega (arith, listed-one o (nodes slots) (rings slots) heads unused p f i free kept)

    can-leave : CanRemove (items slots) (tag_of m) first.number i h.0
    can-leave = record {
      sound = sound;
      tagged = omega (arith, short, items-length slots);
      member = omega (arith, on, h.2 i);
    }

    pub leaves : (tag : ℕ) × (top : ℕ) × (g : Heap) × CanRemove (items slots) tag top i g
    leaves = (tag_of m, first.number, h.0, can-leave)

    is-up : (ring_at (rings slots) i).up.number ≡ (item_at (items slots) i).up
    is-up = sym (ap (λ (e : Item). e.up) (item-is slots i))

    -- What stands above it tells the list if it is the first.
    pub tells : (is_grown : Bool) → (is_grown ≡ false → length slots ≤ 8) → (new : List Slot) (rest : Link)
        → ((tag top : ℕ) (g : Heap) → CanRemove (items slots) tag top i g → HasRemoved (items slots) (items new) tag top rest.number i g)
        → length new ≡ length slots → 4261412864 ≤ (ring_at (rings slots) i).up.number
        → (k : ℕ) × (k < 2704) × ((ring_at (rings slots) i).up.number ≡ tag_of k) × (is_used_at heads k ≡ true)
        × (is_grown ≡ false → CanHold heads k rest)
    tells is_grown few new rest removes long many =
        let w = removes (tag_of m) first.number h.0 can-leave in
        let is_top = top-only (items slots) (tag_of m) first.number i h.0 can-leave (omega (arith, many, is-up, short, items-length slots))
        in (
          m,
          below,
          is-up ∙ up-of (items slots) (tag_of m) first.number h.0 i (sym is_top) can-leave.member h.1,
          is-used (nodes slots) (rings slots) heads m i (p.free_lists m)
              (omega (arith, short, length-map slots ring_of)) ((f.free m below).links) on,
          λ small. elim (cases_eq rest.number no_slot) [
            | inl none ↦ inl none
            | inr some ↦
                let is : IsHeap (items new) (tag_of m) rest.number w.less =
                subst (λ n. IsHeap (items new) (tag_of m) n w.less)
                (cond-true (i == first.number) rest.number first.number (eq-eqb i first.number is_top)) w.heap in
                let t = top-of (items new) (tag_of m) rest.number w.less is some in
                let in_less : 0 < occurs rest.number (members w.less) =
                omega (arith, ap (λ (q : Heap). occurs rest.number (members q)) t.is, same-self rest.number) in
                holds (items slots) heads m rest (items new) (tag_of m) w.less (omega (arith, few small, items-length slots))
                (omega (arith, long, items-length slots, items-length new)) is
                (lists-of rest.number (apart rest.number (omega (arith, in_less, w.has rest.number))))
          ],
        )

    pub left : (new : List Slot) (heads' : List Link) (up rest : Link) → up ≡ (ring_at (rings slots) i).up
        → ((tag top : ℕ) (g : Heap) → CanRemove (items slots) tag top i g → HasRemoved (items slots) (items new) tag top rest.number i g)
        → map unlinked_slot new ≡ map unlinked_slot slots → length new ≡ length slots
        → ((k : ℕ) → head_of heads' k ≡ (if up.number == tag_of k then rest else head_of heads k))
        → AreFiled o (nodes new) (rings new) heads' unused (unlisted p i)
    left new heads' up rest eu removes bare long tops =
        let w = removes (tag_of m) first.number h.0 can-leave in
        let en = nodes-bare slots new bare in
        let number : up.number ≡ (ring_at (rings slots) i).up.number = ap (λ (l : Link). l.number) eu in
        rw en (AreFiled-unlisted o (nodes slots) (rings slots) (rings new) heads heads' unused p f i m refl free firsts kept
        (record {
          same_length = length-rings slots new long;
          links = heap-linked slots new m (head_of heads' m) (without i (p.free_lists m)) w.less en
              (subst (λ n. IsHeap (items new) (tag_of m) n w.less) (begins number) w.heap)
              (λ k. omega (arith, w.has k, h.2 k, occurs-without i (p.free_lists m) on k))
              (removed-sorted (items slots) (items new) h.0 w.less w.routed
              (λ k. area-is new k ∙ ap (λ ns. (node_at ns k).area) en ∙ sym (area-is slots k))
              (λ k l. omega (arith, l, w.has k)) h.3);
          others = λ k z. ring-same slots new k (w.others k (omega (arith, z, h.2 k)));
        }))
      where
        -- Which list is told.
        own : (k : ℕ) → up.number ≡ (ring_at (rings slots) i).up.number → up.number ≡ tag_of k → k ≡ m
        own k e is =
            let is_top = top-only (items slots) (tag_of m) first.number i h.0 can-leave
            (omega (arith, e, is, is-up, short, items-length slots)) in
            omega (arith, is, e, is-up, up-of (items slots) (tag_of m) first.number h.0 i (sym is_top) can-leave.member h.1)

        firsts : (k : ℕ) → k ≢ m → head_of heads' k ≡ head_of heads k
        firsts k ne = tops k ∙ cond-false (up.number == tag_of k) rest (head_of heads k)
            (ne_eqb up.number (tag_of k) (λ e. ne (own k (ap (λ (l : Link). l.number) eu) e)))

        begins : up.number ≡ (ring_at (rings slots) i).up.number → (if i == first.number then rest.number else first.number) ≡
            (head_of heads' m).number
        begins e = elim (cases_eq i first.number) [
          | inl is_top ↦
              cond-true (i == first.number) rest.number first.number (eq-eqb i first.number is_top)
              ∙ sym (ap (λ (l : Link). l.number) (tops m ∙ cond-true (up.number == tag_of m) rest (head_of heads m)
              (eq-eqb up.number (tag_of m) (e ∙ is-up ∙ up-of (items slots) (tag_of m) first.number h.0 i (sym is_top) can-leave.member
              h.1))))
          | inr ne ↦
              cond-false (i == first.number) rest.number first.number (ne_eqb i first.number ne)
              ∙ sym (ap (λ (l : Link). l.number) (tops m ∙ cond-false (up.number == tag_of m) rest (head_of heads m)
              (ne_eqb up.number (tag_of m) (λ q. ne (top-only (items slots) (tag_of m) first.number i h.0 can-leave
              (omega (arith, q, e, is-up, short, items-length slots)))))))
        ]

-- A slot that left its list isn't kept any more.
pub recent-left : (r s : Recent) (free_lists : ℕ → List ℕ) (i : ℕ)
    → ((r.at.number ≡ i) × (s.at.number ≡ no_slot)) ⊎ ((r.at.number ≢ i) × (s ≡ r)) → IsRecent r free_lists
    → IsRecent s (lists_without free_lists i)
unfolding IsRecent
recent-left r s free_lists i (inl gone) is = inl gone.1
recent-left r s free_lists i (inr stays) (inl none) = inl (ap (λ (t : Recent). t.at.number) stays.1 ∙ none)
recent-left r s free_lists i (inr stays) (inr on) =
    subst (λ (t : Recent). IsRecent t (lists_without free_lists i)) (sym stays.1) (inr (elim (cases_eq (occurs i (free_lists r.list)) 0) [
      | inl z ↦ subst (λ ys. 0 < occurs r.at.number ys) (sym (without-none i (free_lists r.list) z)) on
      | inr more ↦ omega (
        arith,
        on,
        occurs-without i (free_lists r.list) (omega (arith, more)) r.at.number,
        same-ne r.at.number i stays.0,
      )
    ]))

-- The slot that is kept stands in this list, or none is answered.
pub recent-in : (r : Recent) (near : Link) (free_lists : ℕ → List ℕ) (list : ℕ)
    → ((r.list ≡ list) × (near ≡ r.at)) ⊎ (near.number ≡ no_slot) → IsRecent r free_lists
    → (near.number ≡ no_slot) ⊎ (0 < occurs near.number (free_lists list))
unfolding IsRecent
recent-in r near free_lists list (inr none) is = inl none
recent-in r near free_lists list (inl here) (inl none) = inl (ap (λ (l : Link). l.number) here.1 ∙ none)
recent-in r near free_lists list (inl here) (inr on) =
    inr (subst (λ (l : Link). 0 < occurs l.number (free_lists list)) (sym here.1)
    (subst (λ k. 0 < occurs r.at.number (free_lists k)) here.0 on))

-- A slot that joined list m stands in it.
pub recent-joined : (r : Recent) (free_lists : ℕ → List ℕ) (m i : ℕ) → r.at.number ≡ i → r.list ≡ m
    → IsRecent r (lists_with free_lists m i)
unfolding IsRecent
recent-joined r free_lists m i at list =
    inr (subst (λ k. 0 < occurs r.at.number (lists_with free_lists m i k)) (sym list)
    (subst (λ n. 0 < occurs n (lists_with free_lists m i m)) (sym at)
    (subst (λ ys. 0 < occurs i ys) (sym (cond-true (m == m) (i ∷ free_lists m) (free_lists m) (eq-eqb m m refl)))
    (omega (arith, same-self i)))))

-- No slot is kept.
pub recent-none : (r : Recent) (free_lists : ℕ → List ℕ) → r.at.number ≡ no_slot → IsRecent r free_lists
unfolding IsRecent
recent-none r free_lists none = inl none
