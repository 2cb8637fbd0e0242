-- The boxes of free entries, counted, and what is read of entries.
use Rattle.std.proofs.Common.{◌≡◌, ◌≢◌, ℕ, zero, suc, ◌+◌, ◌<◌, inl, inr, Bool, true, false, List, [], ◌∷◌, ◌++◌, map, length, slice_set}
use Rattle.std.proofs.Common.{get_or, cond, refl, sym, ap, ◌∙◌, arith}
use Rattle.std.specs.Prelude.{if◌then◌else◌}
use Rattle.std.specs.List.{count_by}
use Rattle.std.proofs.lemmas.Bool.{cases_Bool, both_ways, cond-true, cond-false, lt-ltb}
use Rattle.std.proofs.lemmas.List.{get_or-set_same, get_or-set_other, get_or-map, map-set}
use Rattle.guillotiere.specs.declared.simple.boxes.FreeBox.{FreeBox}
use Rattle.atlas_model.specs.declared.geometry.Rectangle.{Rectangle}
use Rattle.atlas_search.specs.declared.link.Link.{Link}
use Rattle.atlas_model.specs.Boxes.{Box, AreSameBoxes, same_box}
use Rattle.guillotiere.specs.FreeBoxes.BoxShelves.{has_width, stored_item, free_item_boxes, idle_item}
use Rattle.atlas_model.specs.Pixels.{box_of}
use Rattle.atlas_search.specs.Items.{Item, no_item, item_at, item_box}
use Rattle.atlas_search.specs.Rectangles.{IsSolid}
use Rattle.atlas_model.proofs.ListLemmas.ListCounts.{count_by-cons}
use Rattle.atlas_model.proofs.TreeLemmas.TreeBasics.{same_box-true, same_box-itself}

-- ---- counts of free boxes

-- What an entry adds to a count.
unit : (Box → Bool) → Item → ℕ
unit p t = if t.is_free then (if p (item_box t) then 1 else 0) else 0

unit-idle : (p : Box → Bool) (t : Item) → t.is_free ≡ false → unit p t ≡ 0
unfolding unit
unit-idle p t f = cond-false t.is_free (if p (item_box t) then 1 else 0) 0 f

unit-free : (p : Box → Bool) (t : Item) → t.is_free ≡ true → unit p t ≡ (if p (item_box t) then 1 else 0)
unfolding unit
unit-free p t f = cond-true t.is_free (if p (item_box t) then 1 else 0) 0 f

count-free : (p : Box → Bool) (e : Item) (es : List Item)
    → count_by p (free_item_boxes (e ∷ es)) ≡ unit p e + count_by p (free_item_boxes es)
count-free p e es = grind (arith, unit, count_by-cons, unit-free, unit-idle)

count-set : (p : Box → Bool) (es : List Item) (i : ℕ) (e : Item) → i < length es
    → count_by p (free_item_boxes (slice_set es i e)) + unit p (item_at es i) ≡ count_by p (free_item_boxes es) + unit p e
count-set p [] i e l = absurd (omega arith)
count-set p (t ∷ es) zero e l = omega (arith, count-free p e es, count-free p t es)
count-set p (t ∷ es) (suc i) e l = omega (arith, count-free p t (slice_set es i e), count-free p t es, count-set p es i e (omega arith))

-- A free entry in the place of an idle one.
pub boxes-with : (es : List Item) (i : ℕ) (e : Item) → i < length es → (item_at es i).is_free ≡ false → e.is_free ≡ true
    → AreSameBoxes (free_item_boxes (slice_set es i e)) (item_box e ∷ free_item_boxes es)
boxes-with es i e l idle free p = grind (arith, count-set, unit-idle, unit-free, count_by-cons)

-- An idle entry in the place of a free one.
pub boxes-without : (es : List Item) (i : ℕ) (e : Item) → i < length es → (item_at es i).is_free ≡ true
    → e.is_free ≡ false
    → AreSameBoxes (item_box (item_at es i) ∷ free_item_boxes (slice_set es i e)) (free_item_boxes es)
boxes-without es i e l free idle p = grind (arith, count-set, unit-idle, unit-free, count_by-cons)

-- Boxes are those of entries that are free as before, with the same rectangles.
pub boxes-kept : (es fs : List Item) → length fs ≡ length es
    → ((i : ℕ) → (item_at fs i).area ≡ (item_at es i).area) → ((i : ℕ) → (item_at fs i).is_free ≡ (item_at es i).is_free)
    → free_item_boxes fs ≡ free_item_boxes es
boxes-kept [] [] long areas frees = refl
boxes-kept [] (f ∷ fs) long areas frees = absurd (omega (arith, long))
boxes-kept (e ∷ es) [] long areas frees = absurd (omega (arith, long))
boxes-kept (e ∷ es) (f ∷ fs) long areas frees =
    let rest = boxes-kept es fs (omega (arith, long)) (λ i. areas (suc i)) (λ i. frees (suc i)) in
    ap (λ (b : Bool). if b then item_box f ∷ free_item_boxes fs else free_item_boxes fs) (frees 0)
    ∙ ap (λ (r : Rectangle). if e.is_free then box_of r ∷ free_item_boxes fs else free_item_boxes fs) (areas 0)
    ∙ ap (λ (bs : List Box). if e.is_free then item_box e ∷ bs else bs) rest

pub boxes-more : (es : List Item) → free_item_boxes (es ++ no_item ∷ []) ≡ free_item_boxes es
boxes-more [] = refl
boxes-more (t ∷ es) = ap (λ bs. if t.is_free then item_box t ∷ bs else bs) (boxes-more es)

-- ---- reads

pub item_at-same : (es : List Item) (i : ℕ) (e : Item) → i < length es → item_at (slice_set es i e) i ≡ e
item_at-same es i e l = get_or-set_same es i e no_item l

pub item_at-other : (es : List Item) (i j : ℕ) (e : Item) → j ≢ i → item_at (slice_set es i e) j ≡ item_at es j
item_at-other es i j e ne = get_or-set_other es i j e no_item ne

pub item_at-more : (es : List Item) (i : ℕ) → item_at (es ++ no_item ∷ []) i ≡ item_at es i
item_at-more [] zero = refl
item_at-more [] (suc i) = refl
item_at-more (t ∷ es) zero = refl
item_at-more (t ∷ es) (suc i) = item_at-more es i

pub length-more : (es : List Item) → length (es ++ no_item ∷ []) ≡ length es + 1
length-more [] = refl
length-more (t ∷ es) = omega (arith, length-more es)

pub free-inside : (es : List Item) (i : ℕ) → (item_at es i).is_free ≡ true → i < length es
free-inside [] i f = absurd (both_ways false refl f)
free-inside (t ∷ es) zero f = omega arith
free-inside (t ∷ es) (suc i) f = omega (arith, free-inside es i f)

pub exact-width : (r : Rectangle) → IsSolid r → has_width r ≡ true
exact-width r e = grind (arith, lt-ltb)

-- What an index reads.
pub read-item : (bs : List FreeBox) (i : ℕ) (b : FreeBox) → i < length bs → b ≡ get_or bs i b
    → stored_item b ≡ item_at (map stored_item bs) i
read-item bs i b l read = ap stored_item read ∙ sym (get_or-map stored_item bs i b no_item l)

-- The entries once one of them is written as unused.
pub idle-written : (bs : List FreeBox) (x : ℕ) (b : FreeBox) (next unused : Link) → stored_item b ≡ idle_item next.number
    → next ≡ unused → map stored_item (slice_set bs x b) ≡ slice_set (map stored_item bs) x (idle_item unused.number)
idle-written bs x b next unused e f =
    map-set stored_item bs x b ∙ ap (λ (t : Item). slice_set (map stored_item bs) x t) (e ∙ ap (λ (l : Link). idle_item l.number) f)

-- Boxes that are the same as one box.
pub alone : (xs : List Box) (b : Box) → AreSameBoxes xs (b ∷ []) → xs ≡ b ∷ []
alone [] b same_boxes = absurd (omega (arith, same_boxes (λ _. true), count_by-cons (λ _. true) b []))
alone (x ∷ []) b same_boxes =
    elim (cases_Bool (same_box b x)) [
      | inl t ↦ ap (λ y. y ∷ []) (sym (same_box-true b x t))
      | inr f ↦
          absurd
          (omega (
            arith,
            same_boxes (same_box b),
            count_by-cons (same_box b) x [],
            count_by-cons (same_box b) b [],
            ap (λ t. cond {A = ℕ} t 1 0) f,
            ap (λ t. cond {A = ℕ} t 1 0) (same_box-itself b),
          ))
    ]
alone (x ∷ y ∷ zs) b same_boxes =
    absurd
    (omega (
      arith,
      same_boxes (λ _. true),
      count_by-cons (λ _. true) b [],
      count_by-cons (λ _. true) x (y ∷ zs),
      count_by-cons (λ _. true) y zs,
    ))
