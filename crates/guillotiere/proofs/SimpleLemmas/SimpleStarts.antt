-- A simple allocator that grew, or that took over from an atlas.
use Rattle.std.proofs.Common.{◌≡◌, true, false, ◌&&◌, List, [], ◌∷◌, ◌++◌, map, refl, ◌∙◌, arith}
use Rattle.std.specs.List.{All, count_by}
use Rattle.std.specs.Ordering.{int_eq}
use Rattle.std.proofs.lemmas.Bool.{and_parts}
use Rattle.std.proofs.lemmas.Bool.Decides.{nat_tests, Decides-int_eq}
use Rattle.std.proofs.lemmas.List.Elements.{All-nil, All-cons, All-head, All-tail, All-weaker}
use Rattle.std.proofs.lemmas.List.Sums.{sum_by-append}
use Rattle.atlas_model.specs.declared.geometry.Size.{Size}
use Rattle.atlas_model.specs.declared.geometry.Rectangle.{Rectangle}
use Rattle.atlas_model.specs.declared.options.AllocatorOptions.{AllocatorOptions}
use Rattle.atlas_model.specs.Boxes.{Axis, Box, Sides, whole_box, Fits, IsPositive, IsNonempty, IsWithin, AreSameBoxes}
use Rattle.atlas_model.specs.Boxes.Axis.{Horizontal, Vertical}
use Rattle.atlas_model.specs.Cuts.{split_along, leftover_along}
use Rattle.atlas_model.specs.Choice.{Options, AreValid}
use Rattle.atlas_model.specs.Pixels.{box_of, sides_of, size_of, options_of}
use Rattle.atlas_search.specs.Rectangles.{IsUnsigned}
use Rattle.atlas_model.specs.Replies.{IsExact}
use Rattle.atlas_model.specs.States.{State, free_in, IsSound}
use Rattle.atlas_store.specs.Visits.{AreFreeAreas}
use Rattle.atlas_model.specs.Simple.{SimpleState, IsSimple, simple_start, SimplyGrows, StartsFrom, is_kept, kept_rest}
use Rattle.guillotiere.specs.FreeBoxes.FreeLists.{IsStoredState, state_of_items}
use Rattle.guillotiere.specs.FreeBoxes.BoxShelves.{BoxShelf, free_item_boxes, AreKept}
use Rattle.atlas_search.specs.Items.{Item}
use Rattle.guillotiere.proofs.SimpleLemmas.StoredStates.{whole_rectangle, whole-box}
use Rattle.atlas_model.proofs.TreeLemmas.BoxLists.{free_in_place}
use Rattle.atlas_model.proofs.SimpleLemmas.SimpleGrants.{start-simple, count-none, none-count, misplaced, well_placed, not_misplaced}
use Rattle.atlas_model.proofs.SimpleLemmas.SimpleSteps.{grow-simple, starts-simple}

-- A growth.

pub grows-stored : (old new : List Item) (size n : Size) (options : AllocatorOptions)
    → AreSameBoxes (free_item_boxes new) (kept_rest (options_of options) (whole_box (sides_of n)) (sides_of size) ++ free_item_boxes old)
    → SimplyGrows (state_of_items old (sides_of size) options) (sides_of n) (state_of_items new (sides_of n) options)
grows-stored old new size n options boxes = record { free = boxes; size = refl; options = refl }

pub grown-stored : (old new : BoxShelf) (size n : Size) (options : AllocatorOptions)
    → IsStoredState old size options → Fits (sides_of size) (sides_of n) → AreKept (options_of options) new
    → AreSameBoxes (free_item_boxes new.entries) (kept_rest (options_of options) (whole_box (sides_of n)) (sides_of size) ++ free_item_boxes
    old.entries)
    → IsStoredState new n options
grown-stored old new size n options stored fits kept boxes = record {
  simple =
      grow-simple (state_of_items old.entries (sides_of size) options) (state_of_items new.entries (sides_of n) options) (sides_of n)
      stored.simple fits
      (grows-stored old.entries new.entries size n options boxes);
  kept = kept;
}

-- A part without area is never kept.
split-dropped : (o : Options) (axis : Axis) (n : Sides) → AreValid o
    → is_kept o (split_along axis (whole_box n) n) ≡ false
split-dropped o Horizontal n valid = grind (arith, nat_tests)
split-dropped o Vertical n valid = grind (arith, nat_tests)

leftover-dropped : (o : Options) (axis : Axis) (n : Sides) → AreValid o
    → is_kept o (leftover_along axis (whole_box n) n) ≡ false
leftover-dropped o Horizontal n valid = grind (arith, nat_tests)
leftover-dropped o Vertical n valid = grind (arith, nat_tests)

none-added : (o : Options) (n : Sides) → AreValid o → kept_rest o (whole_box n) n ≡ []
none-added o n valid = grind (arith, split-dropped, leftover-dropped)

-- At an equal size nothing is added.
pub equal-grows : (s : SimpleState) (n : Sides) → IsSimple s → n ≡ s.size → Fits s.size n × SimplyGrows s n s
equal-grows s n simple e = grind (arith, none-added)

pub same-sides : (a b : Size) → (int_eq a.width b.width && int_eq a.height b.height) ≡ true → sides_of a ≡ sides_of b
same-sides a b e = grind (arith, and_parts, Decides-int_eq)

-- A start from an atlas.

boxed-all : (P : Box → Type 0) (areas : List Rectangle) → All P (map box_of areas) → All IsExact areas
    → All (λ r. IsUnsigned r × P (box_of r)) areas
boxed-all P [] h exact = All-nil (λ r. IsUnsigned r × P (box_of r))
boxed-all P (r ∷ rs) h exact =
    All-cons (λ q. IsUnsigned q × P (box_of q)) r rs (All-head IsExact r rs exact, All-head P (box_of r) (map box_of rs) h)
    (boxed-all P rs (All-tail P (box_of r) (map box_of rs) h) (All-tail IsExact r rs exact))

pub areas-filed : (s : State) (areas : List Rectangle) → IsSound s → AreFreeAreas s areas
    → All (λ r. IsUnsigned r × IsNonempty (box_of r)) areas
areas-filed s areas sound are =
    let P : Box → Type 0 = λ b. IsNonempty b × IsWithin s.size b in
    let bad = misplaced s.size in
    let none : count_by bad (map box_of areas) ≡ 0 =
    are.list bad ∙ count-none bad (free_in s) (All-weaker P (λ b. bad b ≡ false) (not_misplaced s.size) (free_in s)
    (free_in_place s.size s.tree sound.well_formed)) in
    let placed = All-weaker (λ b. bad b ≡ false) IsNonempty (λ b h. (well_placed s.size b h).0) (map box_of areas)
    (none-count bad (map box_of areas) none) in
    boxed-all IsNonempty areas placed are.exact

pub starts-from : (source : State) (areas : List Rectangle) (empty new : List Item) (size : Size)
    (options : AllocatorOptions)
    → IsSound source → AreFreeAreas source areas → empty ≡ []
    → AreSameBoxes (free_item_boxes new) (map box_of areas ++ free_item_boxes empty) → size ≡ size_of source.size
    → options_of options ≡ source.options
    → StartsFrom source (state_of_items new (sides_of size) options)
starts-from source areas empty new size options sound are none boxes same_size same_options =
    grind (arith, sum_by-append)

pub started-stored : (source : State) (areas : List Rectangle) (empty : List Item) (new : BoxShelf) (size : Size)
    (options : AllocatorOptions)
    → IsSound source → AreFreeAreas source areas → empty ≡ []
    → AreSameBoxes (free_item_boxes new.entries) (map box_of areas ++ free_item_boxes empty)
    → size ≡ size_of source.size → options_of options ≡ source.options
    → AreKept (options_of options) new → IsStoredState new size options
started-stored source areas empty new size options sound are none boxes same_size same_options kept =
    grind (
      arith,
      starts-simple source (state_of_items new.entries (sides_of size) options),
      starts-from source areas empty new.entries size options sound are none boxes same_size same_options,
    )

-- A reset.

pub restart-state : (es : List Item) (size : Size) (options : AllocatorOptions) (r : Rectangle)
    → r ≡ whole_rectangle size → free_item_boxes es ≡ box_of r ∷ []
    → state_of_items es (sides_of size) options ≡ simple_start (sides_of size) (options_of options)
restart-state es size options r e alone = grind (arith, whole-box)

pub restarted-stored : (v : BoxShelf) (size : Size) (options : AllocatorOptions) (r : Rectangle)
    → IsPositive (sides_of size) → AreValid (options_of options)
    → r ≡ whole_rectangle size → free_item_boxes v.entries ≡ box_of r ∷ [] → AreKept (options_of options) v
    → IsStoredState v size options
restarted-stored v size options r positive valid e alone kept = grind (arith, restart-state, start-simple)
