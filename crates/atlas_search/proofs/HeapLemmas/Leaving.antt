-- What hangs below an entry becomes one heap.
use Rattle.std.proofs.Common.{◌≡◌, ◌≢◌, ℕ, zero, suc, ◌+◌, ◌-◌, ◌<◌, ◌≤◌, ◌==◌, ◌⊎◌, Bool, true, false, List, length, map, refl}
use Rattle.std.proofs.Common.{ap, sym, ◌∙◌, subst, inl, inr, arith}
use Rattle.std.specs.Prelude.{if◌then◌else◌}
use Rattle.std.proofs.lemmas.Bool.{cases_eq, cond-true, cond-false, eq-eqb, ne_eqb, true≢false}
use Rattle.std.proofs.lemmas.List.{length-append, length-map}
use Rattle.atlas_search.specs.declared.cells.Cell.{Cell}
use Rattle.atlas_model.specs.Boxes.{Sides, box_sides}
use Rattle.atlas_model.specs.Choice.{ComesFirst}
use Rattle.atlas_model.specs.Pixels.{box_of}
use Rattle.atlas_model.proofs.ChoiceLemmas.PickExistence.{first-then}
use Rattle.atlas_search.specs.Forks.{IsAlike, IsIn, IsRouted, IsSplit, Reroutes, high, is_cut_wide, low, low_by, middle}
use Rattle.atlas_search.specs.HeapCalls.{AreHeapsOf, ArePartsBelow, HasLeft, IsRelinked, IsMelded, IsPut, KeepsAreas, KeepsKinds}
use Rattle.atlas_search.specs.Heaps.{Heap, IsAbove, IsHeap, members}
use Rattle.atlas_search.specs.Heaps.Heap.{None, Top}
use Rattle.atlas_search.specs.Items.{Item, forked, item_at, item_box, item_sides, linked}
use Rattle.atlas_search.specs.Numbers.{occurs, same, no_slot}
use Rattle.atlas_search.specs.Rectangles.{IsSolid}
use Rattle.atlas_search.proofs.Occurrences.{length-distinct, same-self}
use Rattle.atlas_search.proofs.HeapLemmas.Frames.{heap-frame}
use Rattle.atlas_search.proofs.HeapLemmas.Hanging.{first-of, heap-reup, plain-areas, plain-then, top-in}
use Rattle.atlas_search.proofs.HeapLemmas.Joining.{put-areas}
use Rattle.atlas_search.proofs.HeapLemmas.Melding.{linked-areas}
use Rattle.atlas_search.proofs.HeapLemmas.Removing.{below-of}
use Rattle.atlas_search.proofs.HeapLemmas.Sinking.{order-kept}
use Rattle.atlas_search.proofs.SearchLemmas.Cells.{cut-high, cut-wide, high-within}
use Rattle.atlas_search.proofs.SearchLemmas.Heaps.{heap-inside, none-of, occurs-top, top-of}
use Rattle.atlas_search.proofs.SearchLemmas.Routes.{alike-routed, reroutes-kept, reroutes-same, reroutes-then, routed-frame, sides-same}

-- ---- sizes of a half

middle-end : (first end : ℕ) → 1 < end - first → middle first end ≤ end
middle-end first end more = omega (arith, more)

low-of : (b : Bool) (c : Cell) (s : Sides) → is_cut_wide c ≡ b → IsSplit c → IsIn s (low_by b c) → IsIn s c
low-of true c s e split h =
    record { left = h.left; right = omega (arith, h.right, middle-end c.left c.right (cut-wide c e split)); top = h.top; bottom = h.bottom }
low-of false c s e split h =
    record { left = h.left; right = h.right; top = h.top; bottom = omega (arith, h.bottom, middle-end c.top c.bottom (cut-high c e split)) }

low-in : (c : Cell) (s : Sides) → IsSplit c → IsIn s (low c) → IsIn s c
low-in c s split h = low-of (is_cut_wide c) c s refl split h

-- ---- how many entries hang below one

-- How many entries a heap with this top has, at most `bound` deep.
pub hanging : List Item → (bound top : ℕ) → ℕ
hanging es zero top = 0
hanging es (suc bound) top =
    if top == no_slot then 0 else suc (hanging es bound (item_at es top).left + hanging es bound (item_at es top).right)

-- How many two heaps with these tops have.
abbrev pub hanging_both : List Item → (x y : ℕ) → ℕ
hanging_both es x y = hanging es (length es) x + hanging es (length es) y

hanging-is : (es : List Item) (bound up top : ℕ) (h : Heap) → length es ≤ no_slot → IsHeap es up top h → length (members h) ≤ bound
    → hanging es bound top ≡ length (members h)
unfolding hanging
hanging-is es zero up top None short h l = refl
hanging-is es zero up top (Top at left right) short h l = absurd (omega (arith, l))
hanging-is es (suc bound) up top None short h l = cond-true (top == no_slot) 0 _ (eq-eqb top no_slot h)
hanging-is es (suc bound) up top (Top at left right) short h l =
    let ne : top ≢ no_slot = λ e. omega (arith, e, h.0.0, h.0.1, short) in
    let both = length-append (members left) (members right) in
    cond-false (top == no_slot) 0 _ (ne_eqb top no_slot ne)
    ∙ ap suc (ap (λ n. hanging es bound (item_at es n).left + hanging es bound (item_at es n).right) h.0.0
    ∙ omega (
      arith,
      both,
      hanging-is es bound at (item_at es at).left left short h.2.0 (omega (arith, l, both)),
      hanging-is es bound at (item_at es at).right right short h.2.1 (omega (arith, l, both)),
    ))

part-most : (es : List Item) (up top : ℕ) (h : Heap) → IsHeap es up top h → ((k : ℕ) → occurs k (members h) ≤ 1)
    → length (members h) ≤ length es
part-most es up top h is once = length-distinct (length es) (members h) once (λ k l. heap-inside es up top h is k l)

both-count : (es : List Item) (at x y : ℕ) (left right : Heap) → AreHeapsOf es at x y left right
    → hanging_both es x y ≡ length (members left) + length (members right)
both-count es at x y left right a =
    omega (
      arith,
      hanging-is es (length es) at x left a.short a.low (part-most es at x left a.low (λ k. omega (arith, a.once k))),
      hanging-is es (length es) at y right a.short a.high (part-most es at y right a.high (λ k. omega (arith, a.once k))),
    )

-- A part with its top, and what hangs below that.
pub record HasPart (es : List Item) (at x : ℕ) (h : Heap) : Type 0 where
  pub left : Heap
  pub right : Heap
  pub is : h ≡ Top x left right
  pub parts : ArePartsBelow es x left right
  pub counts : length (members left) + length (members right) < length (members h)

part-of : (es : List Item) (at x : ℕ) (h : Heap) → length es ≤ no_slot → IsHeap es at x h → x ≢ no_slot
    → ((k : ℕ) → occurs k (members h) ≤ 1) → ((k : ℕ) → 0 < occurs k (members h) → IsSolid (item_at es k).area) → HasPart es at x h
part-of es at x h short is some once exact =
    let b = below-of es at x h some is in
    record {
      left = b.left;
      right = b.right;
      is = b.is;
      parts = record {
        short = short;
        inside = b.inside;
        low = b.low;
        high = b.high;
        once = λ k. omega (arith, once k, occurs-top k x b.left b.right, ap (λ (q : Heap). occurs k (members q)) b.is);
        exact = λ k m. exact k (omega (arith, m, occurs-top k x b.left b.right, ap (λ (q : Heap). occurs k (members q)) b.is));
      };
      counts = omega (arith, ap (λ (q : Heap). length (members q)) b.is, length-append (members b.left) (members b.right));
    }

-- What hangs below a fork are heaps of it, by the links that were read.
pub heaps-of : (es : List Item) (at x y : ℕ) (left right : Heap) → ArePartsBelow es at left right → (item_at es at).is_fork ≡ true
    → x ≡ (item_at es at).left → y ≡ (item_at es at).right → AreHeapsOf es at x y left right
heaps-of es at x y left right a isf is_x is_y = record {
  short = a.short;
  fork = isf;
  low = subst (λ n. IsHeap es at n left) (sym is_x) a.low;
  high = subst (λ n. IsHeap es at n right) (sym is_y) a.high;
  once = a.once;
  exact = a.exact;
}

-- They stay its heaps where its links alone are written.
pub heaps-put : (es fs : List Item) (at x y up a b : ℕ) (left right : Heap) → ArePartsBelow es at left right → IsPut es fs at up a b true
    → x ≡ (item_at es at).left → y ≡ (item_at es at).right → AreHeapsOf fs at x y left right
heaps-put es fs at x y up a b left right was is is_x is_y =
    let kept : (k : ℕ) → 0 < occurs k (members left) + occurs k (members right) → item_at fs k ≡ item_at es k =
    λ k l. is.others k (λ e. omega (arith, l, was.once k, ap (λ n. same n at) e, same-self at)) in
    record {
      short = omega (arith, was.short, is.long);
      fork = ap (λ (e : Item). e.is_fork) is.here;
      low = heap-frame es fs at x left is.long (λ k l. kept k (omega (arith, l))) (subst (λ n. IsHeap es at n left) (sym is_x) was.low);
      high = heap-frame es fs at y right is.long (λ k l. kept k (omega (arith, l))) (subst (λ n. IsHeap es at n right) (sym is_y) was.high);
      once = was.once;
      exact = λ k l. subst (λ (e : Item). IsSolid e.area) (sym (kept k l)) (was.exact k l);
    }

-- The other way round.
pub heaps-turned : (es : List Item) (at x y : ℕ) (left right : Heap) → AreHeapsOf es at x y left right → AreHeapsOf es at y x right left
heaps-turned es at x y left right a = record {
  short = a.short;
  fork = a.fork;
  low = a.high;
  high = a.low;
  once = λ k. omega (arith, a.once k);
  exact = λ k l. a.exact k (omega (arith, l));
}

-- The entry that comes up is one of the list.
pub first-within : {E : Type 0} (item : E → Item) (xs ys : List E) (at z w : ℕ) (h q : Heap) → AreHeapsOf (map item xs) at z w h q
    → z ≢ no_slot → length (map item ys) ≡ length (map item xs) → z < length ys
first-within item xs ys at z w h q a some long =
    omega (
      arith,
      (top-of (map item xs) at z h a.low some).inside,
      long,
      length-map ys item,
    )

-- Of two tops the left one is the next, or the right one.
abbrev pub IsNext : Bool → (x y n : ℕ) → Type 0
IsNext b x y n = ((b ≡ true) × (n ≡ x)) ⊎ ((b ≡ false) × (n ≡ y))

pub next-is : (b : Bool) (x y n : ℕ) → IsNext b x y n → n ≡ (if b then x else y)
next-is b x y n i = elim i [
  | inl e ↦ e.1 ∙ sym (cond-true b x y e.0)
  | inr e ↦ e.1 ∙ sym (cond-false b x y e.0)
]

-- There is a next one where one of them is.
pub next-none : (b : Bool) (x y n : ℕ) → IsNext b x y n → (b ≡ true → x ≢ no_slot) → (b ≡ false → x ≢ no_slot → y ≢ no_slot)
    → n ≡ no_slot → (x ≡ no_slot) × (y ≡ no_slot)
next-none b x y n i some more none = elim i [
  | inl e ↦ absurd (some e.0 (sym e.1 ∙ none))
  | inr e ↦ (elim (cases_eq x no_slot) [ inl z ↦ z | inr ne ↦ absurd (more e.0 ne (sym e.1 ∙ none)) ], sym e.1 ∙ none)
]

pub next-right : (b : Bool) (x y n : ℕ) → IsNext b x y n → n ≢ no_slot → b ≡ false → y ≢ no_slot
next-right b x y n i some isn none = elim i [
  | inl e ↦ true≢false (sym e.0 ∙ isn)
  | inr e ↦ some (e.1 ∙ none)
]

-- The top of what came up, by the side that it was on.
pub left-came : (es fs : List Item) (b : Bool) (up x y at : ℕ) (left right : Heap) → b ≡ true → HasLeft es fs up x at left right
    → HasLeft es fs up (if b then x else y) at left right
left-came es fs b up x y at left right is = subst (λ n. HasLeft es fs up n at left right) (sym (cond-true b x y is))

pub right-came : (es fs : List Item) (b : Bool) (up x y at : ℕ) (left right : Heap) → b ≡ false → HasLeft es fs up y at left right
    → HasLeft es fs up (if b then x else y) at left right
right-came es fs b up x y at left right is = subst (λ n. HasLeft es fs up n at left right) (sym (cond-false b x y is))

-- Nothing is there.
pub leaves-none : (es : List Item) (at x y up top : ℕ) (left right : Heap) → length es ≤ no_slot → IsHeap es at x left
    → IsHeap es at y right → x ≡ no_slot → y ≡ no_slot → top ≡ no_slot → HasLeft es es up top at left right
leaves-none es at x y up top left right short is_low is_high no_left no_right none =
    let low = none-of es at x left short is_low no_left in
    let high = none-of es at y right short is_high no_right in
    record {
      both = None;
      heap = none;
      has = λ k. omega (arith, ap (λ (q : Heap). occurs k (members q)) low, ap (λ (q : Heap). occurs k (members q)) high);
      others = λ k none. refl;
      routes = record { routed = λ c was. tt; alike = λ s was j l. absurd (omega (arith, l)) };
    }

-- ---- an entry that is no fork

pub leaves-alike : (es fs : List Item) (at up top : ℕ) (left right : Heap) → (item_at es at).is_fork ≡ false
    → IsMelded es fs up top left right → KeepsKinds es fs → HasLeft es fs up top at left right
leaves-alike es fs at up top left right isn m kinds = record {
  both = m.both;
  heap = m.heap;
  has = m.has;
  others = m.others;
  routes = record {
    routed = λ c was. alike-routed fs c (item_sides (item_at es at)) m.both was.0 (all (item_sides (item_at es at)) (λ k l.
        elim (cases_eq (occurs k (members left)) 0) [
          | inl z ↦ (was.2 isn).1 k (omega (arith, l, z))
          | inr more ↦ (was.2 isn).0 k (omega (arith, more))
        ]));
    alike = λ s was. all s (λ k l. was k (omega (arith, l, occurs-top k at left right)));
  };
}
  where
    all : (s : Sides)
        → ((k : ℕ) → 0 < occurs k (members left) + occurs k (members right)
        → (item_sides (item_at es k) ≡ s) × ((item_at es k).is_fork ≡ false))
        → IsAlike fs s m.both
    all s was j l =
        let w = was j (omega (arith, l, m.has j)) in
        (ap (λ r. box_sides (box_of r)) (kinds.areas j) ∙ w.0, kinds.forks j ∙ w.1)

-- ---- a top that comes up, below which something else hangs then

-- The entry z hangs below `up` and has the tops a and b: what hung below it is one heap, with the top `rest`.
pub record HasRisen (gs hs : List Item) (z up rest a b : ℕ) (l r : Heap) : Type 0 where
  pub keeps : KeepsAreas gs hs
  pub here : item_at hs z ≡ forked (linked (item_at gs z) up a b) true
  pub both : Heap
  pub heap : IsHeap hs z rest both
  pub has : (k : ℕ) → occurs k (members both) ≡ occurs k (members l) + occurs k (members r)
  pub stays : (k : ℕ) → k ≢ z → occurs k (members l) + occurs k (members r) ≡ 0 → item_at hs k ≡ item_at gs k
  pub routes : Reroutes gs hs (Top z l r) both

-- It was no fork: what hung below it was melded, and then its links were written.
pub rises-closed : (gs ms hs : List Item) (z up rest a b : ℕ) (l r : Heap) → ArePartsBelow gs z l r → (item_at gs z).is_fork ≡ false
    → IsMelded gs ms z rest l r → KeepsKinds gs ms → IsPut ms hs z up a b true → HasRisen gs hs z up rest a b l r
rises-closed gs ms hs z up rest a b l r parts isn m kinds is =
    let part = leaves-alike gs ms z z rest l r isn m kinds in
    let kept : (k : ℕ) → 0 < occurs k (members part.both) → item_at hs k ≡ item_at ms k =
    λ k l. is.others k (λ e. omega (arith, l, part.has k, parts.once k, ap (λ n. same n z) e, same-self z)) in
    record {
      keeps = plain-then gs ms hs (plain-areas gs ms kinds) (put-areas ms hs z up a b true is);
      here = is.here
          ∙ ap (λ (e : Item). forked (linked e up a b) true) (part.others z (omega (arith, parts.once z, same-self z)));
      both = part.both;
      heap = heap-frame ms hs z rest part.both is.long kept part.heap;
      has = part.has;
      stays = λ k ne none. is.others k ne ∙ part.others k none;
      routes = reroutes-then gs ms hs (Top z l r) part.both part.both part.routes (reroutes-same ms hs part.both kept);
    }

-- It was a fork: its links were written, and then what hung below it went on.
pub rises-lifted : (gs ps hs : List Item) (z up rest a b : ℕ) (l r : Heap) → ArePartsBelow gs z l r → (item_at gs z).is_fork ≡ true
    → IsPut gs ps z up a b true → HasLeft ps hs z rest z l r → KeepsAreas ps hs → HasRisen gs hs z up rest a b l r
rises-lifted gs ps hs z up rest a b l r parts isf is part keeps =
    let areas = put-areas gs ps z up a b true is in
    record {
      keeps = plain-then gs ps hs areas keeps;
      here = part.others z (omega (arith, parts.once z, same-self z)) ∙ is.here;
      both = part.both;
      heap = part.heap;
      has = part.has;
      stays = λ k ne none. part.others k none ∙ is.others k ne;
      routes = reroutes-then gs ps hs (Top z l r) (Top z l r) part.both
          (reroutes-kept gs ps (Top z l r) (λ k m. (
            areas.areas k,
            elim (cases_eq k z) [
              | inl e ↦ ap (λ n. (item_at ps n).is_fork) e ∙ ap (λ (t : Item). t.is_fork) is.here ∙ sym isf
                  ∙ sym (ap (λ n. (item_at gs n).is_fork) e)
              | inr ne ↦ ap (λ (t : Item). t.is_fork) (is.others k ne)
            ],
          ))) part.routes;
    }

-- ---- of two heaps of a fork, h and q, the one with the top z comes up

module _ (es : List Item) (at z w : ℕ) (h q : Heap) (a : AreHeapsOf es at z w h q) where
  pub first-part : z ≢ no_slot → HasPart es at z h
  first-part some = part-of es at z h a.short a.low some (λ k. omega (arith, a.once k)) (λ k m. a.exact k (omega (arith, m)))

  pub first-inside : z ≢ no_slot → z < length es
  first-inside some = (first-part some).parts.inside

  pub first-solid : z ≢ no_slot → IsSolid (item_at es z).area
  first-solid some = a.exact z (omega (arith, top-in es at z h a.low some))

  module _ (some : z ≢ no_slot) where
    abbrev p : HasPart es at z h
    p = first-part some

    counted : (k : ℕ) → occurs k (members h) ≡ same k z + (occurs k (members p.left) + occurs k (members p.right))
    counted k = omega (arith, ap (λ (g : Heap). occurs k (members g)) p.is, occurs-top k z p.left p.right)

    top-routed : (c : Cell) → IsRouted es c h → IsRouted es c (Top z p.left p.right)
    top-routed c = subst (λ (g : Heap). IsRouted es c g) p.is

    pub falls : (fs : List Item) (x y : ℕ) → AreHeapsOf fs z x y p.left p.right → hanging_both fs x y < hanging_both es z w
    falls fs x y b = omega (arith, p.counts, both-count es at z w h q a, both-count fs z x y p.left p.right b)

    -- It is alone, and no fork.
    module _ (fs : List Item) (up : ℕ) (lone : w ≡ no_slot) (isn : (item_at es z).is_fork ≡ false)
        (is : IsRelinked es fs z up (item_at es z).left (item_at es z).right) where
      none : (k : ℕ) → occurs k (members q) ≡ 0
      none k = ap (λ (g : Heap). occurs k (members g)) (none-of es at w q a.short a.high lone)

      kinds : KeepsKinds es fs
      kinds = linked-areas es fs z up (item_at es z).left (item_at es z).right is

      hangs : IsHeap fs up z h
      hangs = heap-reup es fs at up z h a.short is.long some a.low (λ k. omega (arith, a.once k)) is.here (λ k m ne. is.others k ne)

      stays : (k : ℕ) → occurs k (members h) + occurs k (members q) ≡ 0 → item_at fs k ≡ item_at es k
      stays k empty = is.others k (λ e. omega (arith, empty, top-in es at z h a.low some, ap (λ n. occurs n (members h)) e))

      -- In the whole of a cell as in a half.
      wider : (c d : Cell) → IsIn (item_sides (item_at es z)) c → IsRouted es d h → IsRouted fs c h
      wider c d within was = routed-frame es fs c h (λ k m. (kinds.areas k, kinds.forks k))
          (subst (λ (g : Heap). IsRouted es c g) (sym p.is) (within, λ e. absurd (true≢false (sym e ∙ isn)), (top-routed d was).2))

      pub lone-left : HasLeft es fs up z at h q
      lone-left = record {
        both = h;
        heap = hangs;
        has = λ k. omega (arith, none k);
        others = stays;
        routes = record {
          routed = λ c was.
              let f = was.1 a.fork in
              wider c (low c) (low-in c (item_sides (item_at es z)) f.0 (top-routed (low c) f.1).0) f.1;
          alike = λ s was j m. absurd (true≢false (sym a.fork ∙ (was at (omega (arith, same-self at, occurs-top at at h q))).1));
        };
      }

      pub lone-right : HasLeft es fs up z at q h
      lone-right = record {
        both = h;
        heap = hangs;
        has = λ k. omega (arith, none k);
        others = λ k empty. stays k (omega (arith, empty));
        routes = record {
          routed = λ c was.
              let f = was.1 a.fork in
              wider c (high c) (high-within c (item_sides (item_at es z)) (top-routed (high c) f.2).0) f.2;
          alike = λ s was j m. absurd (true≢false (sym a.fork ∙ (was at (omega (arith, same-self at, occurs-top at at q h))).1));
        };
      }

    -- The other one's top hangs below it now, if there is one.
    module _ (gs : List Item)
        (moves : (v : ℕ) (g : Heap) → IsHeap es v w g → ((k : ℕ) → occurs k (members g) ≤ 1) → IsHeap gs z w g)
        (others : (k : ℕ) → (w ≢ no_slot → k ≢ w) → item_at gs k ≡ item_at es k) (kinds : KeepsKinds es gs) where
      unmoved : (k : ℕ) → occurs k (members q) ≡ 0 → item_at gs k ≡ item_at es k
      unmoved k none = others k (λ more e. omega (arith, none, top-in es at w q a.high more, ap (λ n. occurs n (members q)) e))

      of-h : (k : ℕ) → 0 < occurs k (members h) → item_at gs k ≡ item_at es k
      of-h k l = unmoved k (omega (arith, l, a.once k))

      top-same : item_at gs z ≡ item_at es z
      top-same = of-h z (top-in es at z h a.low some)

      pub moved-parts : ArePartsBelow gs z p.left p.right
      moved-parts = record {
        short = omega (arith, a.short, kinds.long);
        inside = omega (arith, p.parts.inside, kinds.long);
        low = subst (λ n. IsHeap gs z n p.left) (sym (ap (λ (e : Item). e.left) top-same))
            (heap-frame es gs z (item_at es z).left p.left kinds.long (λ k l. of-h k (omega (arith, l, counted k))) p.parts.low);
        high = subst (λ n. IsHeap gs z n p.right) (sym (ap (λ (e : Item). e.right) top-same))
            (heap-frame es gs z (item_at es z).right p.right kinds.long (λ k l. of-h k (omega (arith, l, counted k))) p.parts.high);
        once = p.parts.once;
        exact = λ k m. subst IsSolid (sym (kinds.areas k)) (p.parts.exact k m);
      }

      pub moved-heaps : (x y : ℕ) → (item_at gs z).is_fork ≡ true → x ≡ (item_at gs z).left → y ≡ (item_at gs z).right
          → AreHeapsOf gs z x y p.left p.right
      moved-heaps x y = heaps-of gs z x y p.left p.right moved-parts

      module _ (hs : List Item) (up rest x y : ℕ) (m : HasRisen gs hs z up rest x y p.left p.right)
          (first : w ≢ no_slot → ComesFirst (item_box (item_at es z)) (item_box (item_at es w))) where
        areas : KeepsAreas es hs
        areas = plain-then es gs hs (plain-areas es gs kinds) m.keeps

        here : item_at hs z ≡ forked (linked (item_at es z) up x y) true
        here = m.here ∙ ap (λ (e : Item). forked (linked e up x y) true) top-same

        of-q : (k : ℕ) → 0 < occurs k (members q) → item_at hs k ≡ item_at gs k
        of-q k l = m.stays k (λ e. omega (arith, l, a.once k, counted k, ap (λ n. same n z) e, same-self z))
            (omega (arith, l, a.once k, counted k))

        rose-q : IsHeap hs z w q
        rose-q = heap-frame gs hs z w q m.keeps.long of-q (moves at q a.high (λ k. omega (arith, a.once k)))

        rose-others : (k : ℕ) → occurs k (members h) + occurs k (members q) ≡ 0 → item_at hs k ≡ item_at es k
        rose-others k none =
            m.stays k (λ e. omega (arith, none, counted k, ap (λ n. same n z) e, same-self z)) (omega (arith, none, counted k))
            ∙ unmoved k (omega (arith, none))

        carry : (j : ℕ) → ComesFirst (item_box (item_at es z)) (item_box (item_at es j))
            → ComesFirst (item_box (item_at hs z)) (item_box (item_at hs j))
        carry j = order-kept es hs areas z j

        above-p : IsAbove hs z m.both
        above-p j l = carry j (first-of es at z h a.low j (omega (arith, l, m.has j, counted j)))

        above-q : IsAbove hs z q
        above-q j l =
            let more : w ≢ no_slot = λ e. omega (arith, l, ap (λ (g : Heap). occurs j (members g)) (none-of es at w q a.short a.high e)) in
            carry j (first-then (item_box (item_at es z)) (item_box (item_at es w)) (item_box (item_at es j)) (first more)
            (first-of es at w q a.high j l))

        inside : z < length hs
        inside = omega (arith, p.parts.inside, areas.long)

        in-cell : (c : Cell) → IsIn (item_sides (item_at es z)) c → IsIn (item_sides (item_at hs z)) c
        in-cell c = subst (λ (s : Sides). IsIn s c) (sym (sides-same (item_at es z) (item_at hs z) (areas.areas z)))

        part-routed : (c : Cell) → IsRouted es c h → IsRouted hs c m.both
        part-routed c was = m.routes.routed c
            (routed-frame es gs c (Top z p.left p.right) (λ k l. (kinds.areas k, kinds.forks k)) (top-routed c was))

        other-routed : (c : Cell) → IsRouted es c q → IsRouted hs c q
        other-routed c = routed-frame es hs c q (λ k l. (areas.areas k, ap (λ (e : Item). e.is_fork) (of-q k l) ∙ kinds.forks k))

        fork : (item_at hs z).is_fork ≡ true
        fork = ap (λ (e : Item). e.is_fork) here

        -- It was on the left.
        pub rises-left : x ≡ rest → y ≡ w → HasLeft es hs up z at h q
        rises-left ex ey = record {
          both = Top z m.both q;
          heap = (
            (refl, inside, ap (λ (e : Item). e.up) here),
            (above-p, above-q),
            (
              subst (λ n. IsHeap hs z n m.both) (sym (ap (λ (e : Item). e.left) here ∙ ex)) m.heap,
              subst (λ n. IsHeap hs z n q) (sym (ap (λ (e : Item). e.right) here ∙ ey)) rose-q,
            ),
          );
          has = λ k. omega (arith, m.has k, counted k, occurs-top k z m.both q);
          others = rose-others;
          routes = record {
            routed = λ c was.
                let f = was.1 a.fork in (
                  in-cell c (low-in c (item_sides (item_at es z)) f.0 (top-routed (low c) f.1).0),
                  λ e. (f.0, part-routed (low c) f.1, other-routed (high c) f.2),
                  λ e. absurd (true≢false (sym fork ∙ e)),
                );
            alike = λ s was j l. absurd (true≢false (sym a.fork ∙ (was at (omega (arith, same-self at, occurs-top at at h q))).1));
          };
        }

        -- It was on the right.
        pub rises-right : x ≡ w → y ≡ rest → HasLeft es hs up z at q h
        rises-right ex ey = record {
          both = Top z q m.both;
          heap = (
            (refl, inside, ap (λ (e : Item). e.up) here),
            (above-q, above-p),
            (
              subst (λ n. IsHeap hs z n q) (sym (ap (λ (e : Item). e.left) here ∙ ex)) rose-q,
              subst (λ n. IsHeap hs z n m.both) (sym (ap (λ (e : Item). e.right) here ∙ ey)) m.heap,
            ),
          );
          has = λ k. omega (arith, m.has k, counted k, occurs-top k z q m.both);
          others = λ k none. rose-others k (omega (arith, none));
          routes = record {
            routed = λ c was.
                let f = was.1 a.fork in (
                  in-cell c (high-within c (item_sides (item_at es z)) (top-routed (high c) f.2).0),
                  λ e. (f.0, other-routed (low c) f.1, part-routed (high c) f.2),
                  λ e. absurd (true≢false (sym fork ∙ e)),
                );
            alike = λ s was j l. absurd (true≢false (sym a.fork ∙ (was at (omega (arith, same-self at, occurs-top at at q h))).1));
          };
        }
