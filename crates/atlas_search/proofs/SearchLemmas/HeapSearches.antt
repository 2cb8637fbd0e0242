-- A search through a heap.
use Rattle.std.proofs.Common.{◌≡◌, ℕ, ◌-◌, ◌<◌, ◌≤◌, ℤ, Bool, true, false, FitsSigned, w32, List, [], ◌∷◌, ◌++◌, length, map, get_or, ap}
use Rattle.std.proofs.Common.{sym, ◌∙◌, subst, inl, inr, arith}
use Rattle.std.specs.List.{Contains}
use Rattle.std.proofs.lemmas.Bool.{cases_eq}
use Rattle.std.proofs.lemmas.List.{length-map}
use Rattle.atlas_search.specs.declared.best.Best.{Best}
use Rattle.atlas_search.specs.declared.cells.Cell.{Cell}
use Rattle.atlas_model.specs.declared.geometry.Rectangle.{Rectangle}
use Rattle.atlas_search.specs.Bests.{HasSeen, IsFarther}
use Rattle.atlas_model.specs.Boxes.{Box, Sides, box_sides}
use Rattle.atlas_model.specs.Choice.{ComesFirst}
use Rattle.atlas_model.specs.Pixels.{box_of, natural}
use Rattle.atlas_search.specs.Forks.{IsIn, IsRouted, IsSplit, cell_of, high, low}
use Rattle.atlas_search.specs.Heaps.{Heap, IsHeap, members}
use Rattle.atlas_search.specs.Heaps.Heap.{Top}
use Rattle.atlas_search.specs.Items.{Item, item_at, item_box, item_sides, shown_items}
use Rattle.atlas_search.specs.Lookups.{AreLarger, HasShown, HasShownTo}
use Rattle.atlas_search.specs.Numbers.{no_slot, occurs}
use Rattle.atlas_search.specs.Ranks.{corner_of}
use Rattle.atlas_search.specs.Rectangles.{IsSolid}
use Rattle.atlas_search.specs.Searches.{Shown, shown_at}
use Rattle.atlas_search.specs.Showing.{IsForkShowable, IsListShowable, IsShowable}
use Rattle.atlas_search.proofs.Occurrences.{same-self}
use Rattle.atlas_search.proofs.SearchLemmas.Bests.{natural-most, seen-alike}
use Rattle.atlas_search.proofs.SearchLemmas.Cells.{cell-is, high-cell, low-cell}
use Rattle.atlas_search.proofs.SearchLemmas.Heaps.{HasTop, item-read, none-of, occurs-append, occurs-top, top-first, top-of}
use Rattle.atlas_search.proofs.SearchLemmas.Routes.{routed-in}
use Rattle.atlas_search.proofs.SearchLemmas.ShownItems.{shown-none, shown-over, shown-then, shown_items-in, shown_to-then}

-- ---- an entry

module _ (es : List Item) (e : Item) (at : ℕ) (is : e ≡ item_at es at) (a : Rectangle) (area : a ≡ e.area) where
  box_is : box_of a ≡ item_box (item_at es at)
  box_is = ap box_of area ∙ ap item_box is

  -- It is shown.
  pub entry-looked : (r : Sides) (s t : Best)
      → ((is_large : Bool) (shown : List Shown) → HasSeen s is_large r shown
      → HasSeen t is_large r (shown ++ shown_at (box_of a) at ∷ []))
      → HasShownTo es r (at ∷ []) s t
  entry-looked r s t looked = λ is_large shown seen.
      subst (λ (b : Box). HasSeen t is_large r (shown ++ shown_at b at ∷ [])) box_is (looked is_large shown seen)

  module _ (up : ℕ) (c : Cell) (left right : Heap) (heap : IsHeap es up at (Top at left right)) (routed : IsRouted es c (Top at left right))
    where
      -- It is no fork: what hangs below it has its size, and comes no earlier.
      pub entry-alike : (r : Sides) (s t : Best) → e.is_fork ≡ false → HasShownTo es r (at ∷ []) s t
          → HasShownTo es r (members (Top at left right)) s t
      entry-alike r s t isn looked = λ is_large shown seen.
          let below = routed.2 (sym (ap (λ (x : Item). x.is_fork) is) ∙ isn) in
          seen-alike t is_large r shown (shown_items es (members left ++ members right)) (shown_at (item_box (item_at es at)) at)
          (looked is_large shown seen)
          (λ d has.
          let x = shown_items-in es (members left ++ members right) d has in
          let counts = occurs-append x.0 (members left) (members right) in
          let sides : item_sides (item_at es x.0) ≡ item_sides (item_at es at) = elim (cases_eq (occurs x.0 (members left)) 0) [
            | inl z ↦ (below.1 x.0 (omega (arith, x.1, counts, z))).0
            | inr more ↦ (below.0 x.0 (omega (arith, more))).0
          ] in (
            ap (λ (q : Shown). box_sides q.box) x.2 ∙ sides,
            subst (λ (q : Shown). ComesFirst (item_box (item_at es at)) q.box) (sym x.2)
                (top-first es up at at left right heap x.0 (omega (arith, x.1, counts, occurs-top x.0 at left right))),
          ))

      -- Entries of it are passed over.
      over : (narrow : FitsSigned w32 a.min.x) (corner : ℕ) → corner ≡ corner_of (box_of a) → (s : Best) → s.rank ≡ 0 → s.corner ≤ corner
          → (xs : List ℕ) → ((i : ℕ) → 0 < occurs i xs → 0 < occurs i (members (Top at left right))) → HasShown es xs s s
      over narrow corner cornered s equal past xs among =
          shown-over es xs s (box_of a) (let most = natural-most a.min.x narrow in omega (arith, most)) equal
          (omega (arith, past, cornered))
          (λ i has. subst (λ (b : Box). ComesFirst b (item_box (item_at es i))) (sym box_is)
          (top-first es up at at left right heap i (among i has)))

      -- It is passed over, with what hangs below it.
      pub entry-over : (narrow : FitsSigned w32 a.min.x) (corner : ℕ) → corner ≡ corner_of (box_of a) → (s : Best) → s.rank ≡ 0
          → s.corner ≤ corner → HasShown es (members (Top at left right)) s s
      entry-over narrow corner cornered s equal past =
          over narrow corner cornered s equal past (members (Top at left right)) (λ i has. has)

      -- It was shown, and what hangs below it is passed over.
      pub entry-then_over : (narrow : FitsSigned w32 a.min.x) (corner : ℕ) → corner ≡ corner_of (box_of a) → (before s : Best)
          → s.rank ≡ 0 → s.corner ≤ corner → HasShown es (at ∷ []) before s → HasShown es (members (Top at left right)) before s
      entry-then_over narrow corner cornered before s equal past shown =
          shown-then es (at ∷ []) (members left ++ members right) before s s shown
          (over narrow corner cornered s equal past (members left ++ members right)
          (λ i has. omega (arith, has, occurs-append i (members left) (members right), occurs-top i at left right)))

-- Entries of such sizes that come no earlier than one with this corner are passed over.
shown-later : (es : List Item) (P : Sides → Type 0) (r : Sides) (b : Best) (at : ℕ) (a : Rectangle) → box_of a ≡ item_box (item_at es at)
    → FitsSigned w32 a.min.x → (corner : ℕ) → corner ≡ corner_of (box_of a)
    → ((is_large : Bool) (shown more : List Shown) (d : Box) → corner ≡ corner_of d → d.min.x < 4294967296
    → HasSeen b is_large r shown → ((e : Shown) → Contains more e → P (box_sides e.box) × ComesFirst d e.box)
    → HasSeen b is_large r (shown ++ more))
    → (xs : List ℕ)
    → ((i : ℕ) → 0 < occurs i xs → ComesFirst (item_box (item_at es at)) (item_box (item_at es i)) × P (item_sides (item_at es i)))
    → HasShownTo es r xs b b
shown-later es P r b at a is narrow corner cornered passed xs each = λ is_large shown seen.
    passed is_large shown (shown_items es xs) (box_of a) cornered (let most = natural-most a.min.x narrow in omega (arith, most)) seen
    (λ d has.
    let i = shown_items-in es xs d has in
    let e = each i.0 i.1 in (
      subst (λ (q : Shown). P (box_sides q.box)) (sym i.2) e.1,
      subst (λ (q : Shown). ComesFirst (box_of a) q.box) (sym i.2)
          (subst (λ (q : Box). ComesFirst q (item_box (item_at es i.0))) (sym is) e.0),
    ))

-- ---- a heap

-- Nothing is listed.
pub heap-empty : (es : List Item) (up top : ℕ) (h : Heap) → length es ≤ no_slot → IsHeap es up top h → length es ≤ top → (b : Best)
    → HasShown es (members h) b b
heap-empty es up top h short heap past b =
    let none : top ≡ no_slot = elim (cases_eq top no_slot) [
      | inl e ↦ e
      | inr some ↦ absurd (omega (arith, past, (top-of es up top h heap some).inside))
    ] in
    subst (λ (g : Heap). HasShown es (members g) b b) (sym (none-of es up top h short heap none)) (shown-none es b)

-- No box of the cell is better.
pub heap-outside : (es : List Item) (c : Cell) (top : ℕ) (h : Heap) → IsShowable es c top h → (b : Best)
    → ((is_large : Bool) (r : Sides) (shown more : List Shown) → HasSeen b is_large r shown
    → ((d : Shown) → Contains more d → IsIn (box_sides d.box) c) → HasSeen b is_large r (shown ++ more))
    → HasShown es (members h) b b
heap-outside es c top h s b passed = λ r is_large shown seen.
    passed is_large r shown (shown_items es (members h)) seen
    (λ d has.
    let x = shown_items-in es (members h) d has in
    subst (λ (q : Shown). IsIn (box_sides q.box) c) (sym x.2) (routed-in es c h s.is_cell s.routed x.0 x.1))

module _ {E : Type 0} (item : E → Item) (xs : List E) (c : Cell) (top : ℕ) (h : Heap) (s : IsShowable (map item xs) c top h)
    (inside : top < length xs) (x : E) (read : x ≡ get_or xs top x) where
  pub heap-top : HasTop (map item xs) s.up top h
  heap-top = top-of (map item xs) s.up top h s.heap (λ e. omega (arith, e, inside, s.short, length-map xs item))

  pub heap-read : item x ≡ item_at (map item xs) top
  heap-read = item-read item xs top x inside read

  pub heap-solid : IsSolid (item x).area
  heap-solid =
      subst (λ (e : Item). IsSolid e.area) (sym heap-read)
      (s.exact top (omega (
        arith,
        ap (λ (g : Heap). occurs top (members g)) heap-top.is,
        occurs-top top top heap-top.left heap-top.right,
        same-self top,
      )))

  as-top : IsShowable (map item xs) c top (Top top heap-top.left heap-top.right)
  as-top = subst (IsShowable (map item xs) c top) heap-top.is s

  -- Nothing below the top is shown.
  pub heap-alone : (before after : Best)
      → ((up : ℕ) (c : Cell) (l r : Heap) → IsHeap (map item xs) up top (Top top l r) → IsRouted (map item xs) c (Top top l r)
      → HasShown (map item xs) (members (Top top l r)) before after)
      → HasShown (map item xs) (members h) before after
  heap-alone before after shown =
      subst (λ (g : Heap). HasShown (map item xs) (members g) before after) (sym heap-top.is)
      (shown as-top.up c heap-top.left heap-top.right as-top.heap as-top.routed)

  -- The top was shown, and none that hangs below it is better: each has a size of the cell, and comes no earlier than the top.
  pub heap-ended : (r : Sides) (before b : Best) → HasShownTo (map item xs) r (top ∷ []) before b → (a : Rectangle) → a ≡ (item x).area
      → FitsSigned w32 a.min.x → (corner : ℕ) → corner ≡ corner_of (box_of a)
      → ((is_large : Bool) (shown more : List Shown) (d : Box) → corner ≡ corner_of d → d.min.x < 4294967296
      → HasSeen b is_large r shown → ((e : Shown) → Contains more e → IsIn (box_sides e.box) c × ComesFirst d e.box)
      → HasSeen b is_large r (shown ++ more))
      → HasShownTo (map item xs) r (members h) before b
  heap-ended r before b shown a area narrow corner cornered ended =
      let es = map item xs in
      let t = heap-top in
      let below = members t.left ++ members t.right in
      subst (λ (g : Heap). HasShownTo es r (members g) before b) (sym t.is)
      (shown_to-then es r (top ∷ []) below before b b shown
      (shown-later es (λ s. IsIn s c) r b top a (ap box_of area ∙ ap item_box heap-read) narrow corner cornered ended below
      (λ i has.
      let among : 0 < occurs i (members (Top top t.left t.right)) =
      omega (arith, has, occurs-append i (members t.left) (members t.right), occurs-top i top t.left t.right) in (
        top-first es as-top.up top top t.left t.right as-top.heap i among,
        routed-in es c (Top top t.left t.right) s.is_cell as-top.routed i among,
      ))))

  -- The top is a fork, and what hangs below it can be shown.
  pub heap-fork : (item x).is_fork ≡ true → IsForkShowable (map item xs) c (item x) top heap-top.left heap-top.right
  heap-fork isf = record { is = heap-read; is_fork = isf; whole = as-top }

  -- It is shown, and then what hangs below it.
  pub heap-shown : (r : Sides) (b one two : Best) → HasShownTo (map item xs) r (top ∷ []) b one
      → HasShown (map item xs) (members heap-top.left ++ members heap-top.right) one two
      → HasShownTo (map item xs) r (members h) b two
  heap-shown r b one two first below =
      subst (λ (g : Heap). HasShownTo (map item xs) r (members g) b two) (sym heap-top.is)
      (shown_to-then (map item xs) r (top ∷ []) (members heap-top.left ++ members heap-top.right) b one two first (below r))

-- ---- a fork

module _ (es : List Item) (c : Cell) (fork : Item) (top : ℕ) (l r : Heap) (s : IsForkShowable es c fork top l r) where
  routes : IsSplit c × IsRouted es (low c) l × IsRouted es (high c) r
  routes = s.whole.routed.1 (sym (ap (λ (e : Item). e.is_fork) s.is) ∙ s.is_fork)

  pub fork-split : IsSplit c
  fork-split = routes.0

  pub fork-low : (at : ℕ) → at ≡ fork.left → (d : Cell) → d ≡ low c → IsShowable es d at l
  fork-low at is d half = subst (λ (k : Cell). IsShowable es k at l) (sym half) (record {
    short = s.whole.short;
    up = top;
    heap = subst (λ n. IsHeap es top n l) (sym (is ∙ ap (λ (e : Item). e.left) s.is)) s.whole.heap.2.0;
    once = λ i. omega (arith, s.whole.once i, occurs-top i top l r);
    exact = λ i more. s.whole.exact i (omega (arith, more, occurs-top i top l r));
    is_cell = low-cell c s.whole.is_cell fork-split;
    routed = routes.1;
  })

  pub fork-high : (at : ℕ) → at ≡ fork.right → (d : Cell) → d ≡ high c → IsShowable es d at r
  fork-high at is d half = subst (λ (k : Cell). IsShowable es k at r) (sym half) (record {
    short = s.whole.short;
    up = top;
    heap = subst (λ n. IsHeap es top n r) (sym (is ∙ ap (λ (e : Item). e.right) s.is)) s.whole.heap.2.1;
    once = λ i. omega (arith, s.whole.once i, occurs-top i top l r);
    exact = λ i more. s.whole.exact i (omega (arith, more, occurs-top i top l r));
    is_cell = high-cell c s.whole.is_cell fork-split;
    routed = routes.2;
  })

-- ---- a list

side-most : (lo hi : ℤ) → FitsSigned w32 hi → natural hi - natural lo ≤ 2147483647
side-most lo hi f = let most = natural-most hi f in omega (arith, most)

module _ {E : Type 0} (item : E → Item) (xs : List E) (top : ℕ) (h : Heap) (s : IsListShowable (map item xs) top h)
    (inside : top < length xs) (x : E) (read : x ≡ get_or xs top x) where
  pub list-top : HasTop (map item xs) s.up top h
  list-top = top-of (map item xs) s.up top h s.heap (λ e. omega (arith, e, inside, s.short, length-map xs item))

  pub list-read : item x ≡ item_at (map item xs) top
  list-read = item-read item xs top x inside read

  list-in : 0 < occurs top (members h)
  list-in = omega (
    arith,
    ap (λ (g : Heap). occurs top (members g)) list-top.is,
    occurs-top top top list-top.left list-top.right,
    same-self top,
  )

  pub list-solid : IsSolid (item x).area
  list-solid = subst (λ (e : Item). IsSolid e.area) (sym list-read) (s.exact top list-in)

  -- The rectangle that was read.
  pub list-solid_area : (a : Rectangle) → a ≡ (item x).area → IsSolid a
  list-solid_area a area = subst IsSolid (sym area) list-solid

  -- The list as a heap with sizes of its top's cell.
  pub list-showable : FitsSigned w32 (item x).area.max.x → FitsSigned w32 (item x).area.max.y
      → (c : Cell) → c ≡ cell_of (item_sides (item x)) → IsShowable (map item xs) c top h
  list-showable right bottom c is =
      let e = list-solid.nonempty in
      subst (λ (d : Cell). IsShowable (map item xs) d top h) (sym is) (record {
        short = s.short;
        up = s.up;
        heap = s.heap;
        once = s.once;
        exact = s.exact;
        is_cell = cell-is (item_sides (item x)) (omega (arith, e.0), omega (arith, e.1))
            (side-most (item x).area.min.x (item x).area.max.x right) (side-most (item x).area.min.y (item x).area.max.y bottom);
        routed = subst (λ (e : Item). IsRouted (map item xs) (cell_of (item_sides e)) h) (sym list-read) (s.sorted top list-in);
      })

  -- The same by the rectangle that was read.
  pub list-as_heap : (r : Rectangle) → r ≡ (item x).area → FitsSigned w32 r.max.x → FitsSigned w32 r.max.y → (c : Cell)
      → c ≡ cell_of (box_sides (box_of r)) → IsShowable (map item xs) c top h
  list-as_heap r is right bottom c cell =
      list-showable (subst (λ (q : Rectangle). FitsSigned w32 q.max.x) is right)
      (subst (λ (q : Rectangle). FitsSigned w32 q.max.y) is bottom)
      c (cell ∙ ap (λ (q : Rectangle). cell_of (box_sides (box_of q))) is)

  -- Nothing below the top is shown.
  pub list-alone : (r : Sides) (before after : Best)
      → ((up : ℕ) (c : Cell) (low high : Heap) → IsHeap (map item xs) up top (Top top low high)
      → IsRouted (map item xs) c (Top top low high)
      → HasShownTo (map item xs) r (members (Top top low high)) before after)
      → HasShownTo (map item xs) r (members h) before after
  list-alone r before after shown =
      subst (λ (g : Heap). HasShownTo (map item xs) r (members g) before after) (sym list-top.is)
      (shown s.up (cell_of (item_sides (item_at (map item xs) top))) list-top.left list-top.right
      (subst (IsHeap (map item xs) s.up top) list-top.is s.heap)
      (subst (IsRouted (map item xs) (cell_of (item_sides (item_at (map item xs) top)))) list-top.is (s.sorted top list-in)))

  -- The top is shown, which is larger than a request as all of them are.
  pub list-looked : (r : Sides) (s t : Best) → AreLarger (map item xs) r (members h) → (a : Rectangle) → a ≡ (item x).area
      → ((is_large : Bool) (r : Sides) (shown : List Shown) → IsFarther r (box_sides (box_of a)) → HasSeen s is_large r shown
      → HasSeen t is_large r (shown ++ shown_at (box_of a) top ∷ []))
      → HasShownTo (map item xs) r (top ∷ []) s t
  list-looked r s t larger a area looked =
      let same : box_of a ≡ item_box (item_at (map item xs) top) = ap box_of area ∙ ap item_box list-read in
      entry-looked (map item xs) (item x) top list-read a area r s t (λ is_large shown.
      looked is_large r shown (subst (λ (b : Box). IsFarther r (box_sides b)) (sym same) (larger top list-in)))

  -- None is better: each is larger than the request, and comes no earlier than the top.
  pub list-passed : (r : Sides) (b : Best) → AreLarger (map item xs) r (members h) → (a : Rectangle) → a ≡ (item x).area
      → FitsSigned w32 a.min.x → (corner : ℕ) → corner ≡ corner_of (box_of a)
      → ((is_large : Bool) (shown more : List Shown) (d : Box) → corner ≡ corner_of d → d.min.x < 4294967296
      → HasSeen b is_large r shown → ((e : Shown) → Contains more e → IsFarther r (box_sides e.box) × ComesFirst d e.box)
      → HasSeen b is_large r (shown ++ more))
      → HasShownTo (map item xs) r (members h) b b
  list-passed r b larger a area narrow corner cornered passed =
      let es = map item xs in
      let t = list-top in
      shown-later es (IsFarther r) r b top a (ap box_of area ∙ ap item_box list-read) narrow corner cornered passed (members h)
      (λ i has. (
        top-first es s.up top top t.left t.right (subst (IsHeap es s.up top) t.is s.heap) i
            (subst (λ (g : Heap). 0 < occurs i (members g)) t.is has),
        larger i has,
      ))
