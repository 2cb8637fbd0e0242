-- The free boxes of a simple allocator as plain data.
use Rattle.std.proofs.Common.{ℕ, ◌+◌, ◌<◌, ◌≡◌, Bool, true, false, List, [], ◌∷◌, ◌++◌, refl, sym, ap, ◌∙◌, inl, inr, arith, suc}
use Rattle.std.proofs.Common.{length, map, get_or, drop, take, subst}
use Rattle.std.specs.Prelude.{All}
use Rattle.std.specs.List.{count_by, filter}
use Rattle.std.proofs.lemmas.Bool.{cases_Bool, cond-false, cond-true}
use Rattle.std.proofs.lemmas.List.{append-nil, at_drop_more, map-append}
use Rattle.std.proofs.lemmas.List.Elements.{All-nil, All-cons, All-head, All-tail, All-weaker}
use Rattle.std.proofs.lemmas.List.Sums.{sum_by-append, sum_by-cons}
use Rattle.atlas_model.specs.declared.geometry.Rectangle.{Rectangle}
use Rattle.atlas_model.specs.declared.geometry.Size.{Size}
use Rattle.atlas_model.specs.declared.options.AllocatorOptions.{AllocatorOptions}
use Rattle.atlas_model.specs.Boxes.{Box, Sides, AreDisjoint, AreSameBoxes, IsNonempty, IsPositive, IsWithin, covers}
use Rattle.atlas_model.specs.Choice.{AreValid}
use Rattle.atlas_model.specs.Pixels.{box_of, options_of, sides_of}
use Rattle.atlas_model.specs.Simple.{IsSimple, SimpleState}
use Rattle.atlas_model.proofs.TreeLemmas.TreeBasics.{one_if}
use Rattle.atlas_model.proofs.SimpleLemmas.SimpleGrants.{count-none, misplaced, none-count, not_misplaced, well_placed}
use Rattle.atlas_search.specs.Items.{Item, item_at}
use Rattle.atlas_search.specs.Rectangles.{IsSolid, IsUnsigned}
use Rattle.guillotiere.specs.declared.simple.boxes.FreeBox.{FreeBox}
use Rattle.guillotiere.specs.declared.simple.image.SimpleImage.{SimpleImage}
use Rattle.guillotiere.specs.Apart.{IsSolidWithin}
use Rattle.guillotiere.specs.FreeBoxes.BoxShelves.{free_item_boxes, has_width, stored_item}
use Rattle.guillotiere.specs.FreeBoxes.FreeEntries.{free_entry_areas}
use Rattle.guillotiere.specs.FreeBoxes.FreeLists.{state_of_items}
use Rattle.guillotiere.specs.SimpleImages.{IsImageOf, IsSimpleImage}
use Rattle.guillotiere.proofs.SimpleLemmas.ApartSteps.{filter-left, filter-taken}
use Rattle.guillotiere.proofs.SimpleLemmas.FreeItems.{free-first, idle-first}

-- The free entries.
abbrev pub area_of : FreeBox → Rectangle
area_of b = b.area

abbrev pub is_wide : FreeBox → Bool
is_wide b = has_width b.area

pub entry-boxes : (bs : List FreeBox) → map box_of (free_entry_areas bs) ≡ free_item_boxes (map stored_item bs)
entry-boxes [] = refl
entry-boxes (b ∷ bs) = elim (cases_Bool (is_wide b)) [
  | inl e ↦
      let is : filter is_wide (b ∷ bs) ≡ b ∷ filter is_wide bs =
      cond-true (is_wide b) (b ∷ filter is_wide bs) (filter is_wide bs) e in
      ap (λ l. map box_of (map area_of l)) is ∙ ap (λ l. box_of b.area ∷ l) (entry-boxes bs)
      ∙ sym (free-first (stored_item b) (map stored_item bs) e)
  | inr e ↦
      let is : filter is_wide (b ∷ bs) ≡ filter is_wide bs =
      cond-false (is_wide b) (b ∷ filter is_wide bs) (filter is_wide bs) e in
      ap (λ l. map box_of (map area_of l)) is ∙ entry-boxes bs ∙ sym (idle-first (stored_item b) (map stored_item bs) e)
]

pub entry-solid : (bs : List FreeBox)
    → ((i : ℕ) → (item_at (map stored_item bs) i).is_free ≡ true → IsSolid (item_at (map stored_item bs) i).area)
    → All IsSolid (free_entry_areas bs)
entry-solid [] h = All-nil IsSolid
entry-solid (b ∷ bs) h =
    let rest = entry-solid bs (λ i e. h (suc i) e) in
    elim (cases_Bool (is_wide b)) [
      | inl e ↦
          let is : filter is_wide (b ∷ bs) ≡ b ∷ filter is_wide bs =
          cond-true (is_wide b) (b ∷ filter is_wide bs) (filter is_wide bs) e in
          subst (λ l. All IsSolid (map area_of l)) (sym is) (All-cons IsSolid b.area (map area_of (filter is_wide bs)) (h 0 e) rest)
      | inr e ↦
          let is : filter is_wide (b ∷ bs) ≡ filter is_wide bs =
          cond-false (is_wide b) (b ∷ filter is_wide bs) (filter is_wide bs) e in
          subst (λ l. All IsSolid (map area_of l)) (sym is) rest
    ]

-- The data that the free entries make up.
pub image-of : {A : Type 0} (image : SimpleImage A) (bs : List FreeBox) (size : Size) (options : AllocatorOptions)
    → ((i : ℕ) → (item_at (map stored_item bs) i).is_free ≡ true → IsSolid (item_at (map stored_item bs) i).area)
    → image.free.items ≡ free_entry_areas bs → image.size ≡ size → image.options ≡ options
    → IsImageOf image (state_of_items (map stored_item bs) (sides_of size) options)
image-of image bs size options solid free same_size same_options =
    record {
      boxes = λ p. ap (λ l. count_by p (map box_of l)) free ∙ ap (count_by p) (entry-boxes bs);
      unsigned = subst (All IsUnsigned) (sym free) (λ k d l. (entry-solid bs solid k d l).unsigned);
      sides = ap sides_of same_size;
      settings = ap options_of same_options;
    }

-- One entry more is looked at.
pub entries-taken : (bs : List FreeBox) (i : ℕ) (d : FreeBox) (b : Bool) → b ≡ has_width (get_or bs i d).area → b ≡ true
    → i < length bs → free_entry_areas (take (i + 1) bs) ≡ free_entry_areas (take i bs) ++ (get_or bs i d).area ∷ []
entries-taken bs i d b says passes inside =
    ap (map area_of) (filter-taken is_wide bs i d b says passes inside)
    ∙ map-append area_of (filter is_wide (take i bs)) (get_or bs i d ∷ [])

pub entries-left : (bs : List FreeBox) (i : ℕ) (d : FreeBox) (b : Bool) → b ≡ has_width (get_or bs i d).area → b ≡ false
    → i < length bs → free_entry_areas (take (i + 1) bs) ≡ free_entry_areas (take i bs)
entries-left bs i d b says fails inside = ap (map area_of) (filter-left is_wide bs i d b says fails inside)

-- One rectangle more is filed.
pub next-area : (rs : List Rectangle) (i : ℕ) (d : Rectangle) (old new boxes : List Box) → i < length rs
    → AreSameBoxes (map box_of (drop i rs) ++ old) boxes → AreSameBoxes new (box_of (get_or rs i d) ∷ old)
    → AreSameBoxes (map box_of (drop (i + 1) rs) ++ new) boxes
next-area rs i d old new boxes low before filed p =
    let g : Box → ℕ = λ b. one_if (p b) in
    let rest = map box_of (drop (i + 1) rs) in
    let area = box_of (get_or rs i d) in
    let e : count_by p (map box_of (drop i rs) ++ old) ≡ count_by p ((area ∷ rest) ++ old) =
    ap (λ l. count_by p (map box_of l ++ old)) (at_drop_more (λ ys. ys) rs i d low) in
    omega (
      arith,
      before p,
      filed p,
      e,
      sum_by-append g rest new,
      sum_by-append g (area ∷ rest) old,
      sum_by-cons g area rest,
      sum_by-cons g area old,
    )

-- Boxes that are the same, but for their order.
abbrev IsPlaced : Sides → Box → Type 0
IsPlaced size b = IsNonempty b × IsWithin size b

placed-same : (size : Sides) (bs cs : List Box) → AreSameBoxes bs cs → All (IsPlaced size) cs → All (IsPlaced size) bs
placed-same size bs cs same all =
    let bad = misplaced size in
    All-weaker (λ b. bad b ≡ false) (IsPlaced size) (well_placed size) bs
    (none-count bad bs (same bad ∙ count-none bad cs (All-weaker (IsPlaced size) (λ b. bad b ≡ false) (not_misplaced size) cs all)))

disjoint-same : (bs cs : List Box) → AreSameBoxes bs cs → AreDisjoint cs → AreDisjoint bs
disjoint-same bs cs same disjoint x y = omega (arith, same (covers x y), disjoint x y)

placed-of : (size : Sides) (rs : List Rectangle) → All (IsSolidWithin size) rs → All (IsPlaced size) (map box_of rs)
placed-of size [] all = All-nil (IsPlaced size)
placed-of size (r ∷ rs) all =
    let w = All-head (IsSolidWithin size) r rs all in
    All-cons (IsPlaced size) (box_of r) (map box_of rs) (w.solid.nonempty, w.within)
    (placed-of size rs (All-tail (IsSolidWithin size) r rs all))

within-of : (size : Sides) (rs : List Rectangle) → All IsUnsigned rs → All (IsPlaced size) (map box_of rs) → All (IsSolidWithin size) rs
within-of size [] unsigned all = All-nil (IsSolidWithin size)
within-of size (r ∷ rs) unsigned all =
    let p = All-head (IsPlaced size) (box_of r) (map box_of rs) all in
    All-cons (IsSolidWithin size) r rs
    (record { solid = record { unsigned = All-head IsUnsigned r rs unsigned; nonempty = p.0 }; within = p.1 })
    (within-of size rs (All-tail IsUnsigned r rs unsigned) (All-tail (IsPlaced size) (box_of r) (map box_of rs) all))

-- The data of an allocator are such as one may have.
pub image-simple : {A : Type 0} (image : SimpleImage A) (s : SimpleState) → IsSimple s → IsImageOf image s → IsSimpleImage image
image-simple image s simple is =
    let placed = subst (λ size. All (IsPlaced size) s.free) (sym is.sides) simple.boxes in
    record {
      positive = subst IsPositive (sym is.sides) simple.nonempty;
      valid = subst AreValid (sym is.settings) simple.valid;
      within = within-of (sides_of image.size) image.free.items is.unsigned
          (placed-same (sides_of image.size) (map box_of image.free.items) s.free is.boxes placed);
      apart = disjoint-same (map box_of image.free.items) s.free is.boxes simple.disjoint;
    }

-- What was made of such data.
module _ {A : Type 0} (image : SimpleImage A) (simple : IsSimpleImage image) (es : List Item)
    (boxes : AreSameBoxes (free_item_boxes es) (map box_of image.free.items ++ [])) where
  same : AreSameBoxes (free_item_boxes es) (map box_of image.free.items)
  same p = boxes p ∙ ap (count_by p) (append-nil (map box_of image.free.items))

  pub made-simple : (options : AllocatorOptions) → options_of options ≡ options_of image.options
      → IsSimple (state_of_items es (sides_of image.size) options)
  made-simple options settings =
      record {
        nonempty = simple.positive;
        valid = subst AreValid (sym settings) simple.valid;
        boxes = placed-same (sides_of image.size) (free_item_boxes es) (map box_of image.free.items) same
            (placed-of (sides_of image.size) image.free.items simple.within);
        disjoint = disjoint-same (free_item_boxes es) (map box_of image.free.items) same simple.apart;
      }

  pub made-image : (options : AllocatorOptions) → options_of options ≡ options_of image.options
      → IsImageOf image (state_of_items es (sides_of image.size) options)
  made-image options settings =
      record {
        boxes = λ p. sym (same p);
        unsigned = λ k d l. (simple.within k d l).solid.unsigned;
        sides = refl;
        settings = sym settings;
      }

pub areas-exact : (size : Sides) (rs : List Rectangle) → All (IsSolidWithin size) rs → All (λ r. IsUnsigned r × IsNonempty (box_of r)) rs
areas-exact size rs all = λ k d l. let w = all k d l in (w.solid.unsigned, w.solid.nonempty)
