-- The state that a simple allocator stores.
use Rattle.std.proofs.Common.{◌≡◌, ℕ, ◌-◌, ◌<◌, Bool, true, List, map, length, get_or, Result, Option, pos, ◌↔◌, ap, sym, ◌∙◌, subst, arith}
use Rattle.std.specs.Bool.{IsTrue}
use Rattle.std.specs.List.{Any, Contains}
use Rattle.std.proofs.lemmas.List.Elements.{All-contains}
use Rattle.atlas_model.specs.declared.geometry.Size.{Size}
use Rattle.atlas_model.specs.declared.geometry.Rectangle.{Rectangle}
use Rattle.atlas_model.specs.declared.error.AtlasError.{AtlasError}
use Rattle.atlas_model.specs.declared.options.AllocatorOptions.{AllocatorOptions}
use Rattle.atlas_model.specs.Boxes.{Box, Sides, box_sides, whole_box, IsPositive, IsNonempty, IsWithin}
use Rattle.guillotiere.specs.FreeBoxes.BoxShelves.{BoxShelf, free_item_boxes, has_width, stored_item, AreKept}
use Rattle.atlas_search.specs.Items.{Item, no_item, item_at, item_box}
use Rattle.atlas_search.specs.Rectangles.{IsSolid, IsUnsigned}
use Rattle.atlas_search.specs.Lookups.{AreListed}
use Rattle.guillotiere.specs.declared.simple.boxes.FreeBox.{FreeBox}
use Rattle.atlas_search.specs.declared.link.Link.{Link}
use Rattle.guillotiere.proofs.SimpleLemmas.BoxShelves.{lone_box}
use Rattle.guillotiere.proofs.SimpleLemmas.ItemBoxes.{exact-width, free-inside, read-item}
use Rattle.guillotiere.proofs.SimpleLemmas.FreeItems.{are-free}
use Rattle.std.proofs.lemmas.List.{get_or_default, length-map}
use Rattle.atlas_model.specs.Choice.{Options}
use Rattle.atlas_model.specs.Pixels.{natural, box_of, rectangle_of, sides_of, options_of}
use Rattle.atlas_model.specs.Simple.SimpleAtlasCall.{Allocate}
use Rattle.atlas_model.specs.Simple.{SimpleStep, simple_answer}
use Rattle.guillotiere.specs.FreeBoxes.FreeLists.{IsStoredState, state_of_items}
use Rattle.atlas_model.proofs.SimpleLemmas.SimpleSteps.{step-simple}
use Rattle.atlas_store.proofs.StoreLemmas.Sizes.{size_is}

-- After a request.

pub stored-step : (old new : BoxShelf) (size : Size) (options : AllocatorOptions) (s : Sides)
    (result : Result (Option Rectangle) AtlasError)
    → IsStoredState old size options → AreKept (options_of options) new
    → SimpleStep (state_of_items old.entries (sides_of size) options) (Allocate s) (simple_answer result)
    (state_of_items new.entries (sides_of size) options)
    → IsStoredState new size options
stored-step old new size options s result stored kept step =
    grind (
      arith,
      step-simple (state_of_items old.entries (sides_of size) options) (state_of_items new.entries (sides_of size) options) (Allocate s)
          (simple_answer result) stored.simple step,
    )

-- The rectangle of a whole size.
abbrev pub whole_rectangle : Size → Rectangle
whole_rectangle size = record { min = record { x = pos 0; y = pos 0 }; max = record { x = size.width; y = size.height } }

pub whole-unsigned : (size : Size) → IsPositive (sides_of size) → IsUnsigned (whole_rectangle size)
whole-unsigned size positive = ap whole_rectangle (size_is size positive)

pub whole-sides : (size : Sides) → box_sides (whole_box size) ≡ size
whole-sides size = grind arith

pub whole-box : (size : Size) → box_of (whole_rectangle size) ≡ whole_box (sides_of size)
whole-box size = grind arith

-- Whether an entry is a rectangle, and whether its box is free.

boxed : (bs : List FreeBox) (r : Rectangle) → has_width r ≡ true → Any (λ b. b.area ≡ r) bs
    → Contains (free_item_boxes (map stored_item bs)) (box_of r)
boxed bs r wide any =
    let es = map stored_item bs in
    let b = any.1 in
    let at : stored_item b ≡ item_at es any.0 = read-item bs any.0 b any.2 (sym any.3) in
    let free : (item_at es any.0).is_free ≡ true =
    subst (λ (t : Item). t.is_free ≡ true) at (subst (λ (q : Rectangle). has_width q ≡ true) (sym any.4) wide) in
    subst (λ (x : Box). Contains (free_item_boxes es) x) (ap item_box (sym at) ∙ ap box_of any.4) ((are-free es).of_box any.0 free)

unboxed : (o : Options) (heads : List Link) (bs : List FreeBox) (r : Rectangle)
    → AreListed o heads (map stored_item bs) → IsUnsigned r
    → Contains (free_item_boxes (map stored_item bs)) (box_of r) → Any (λ b. b.area ≡ r) bs
unboxed o heads bs r listed unsigned has =
    let es = map stored_item bs in
    let e = (are-free es).of_item (box_of r) has in
    let area : (item_at es e.0).area ≡ r = (listed.exact e.0 e.1).unsigned ∙ (ap rectangle_of e.2 ∙ sym unsigned) in
    let inside : e.0 < length bs = omega (arith, free-inside es e.0 e.1, length-map bs stored_item) in
    let none : FreeBox = lone_box no_item.area in
    let b = get_or bs e.0 none in
    let read : get_or bs e.0 b ≡ b = get_or_default bs e.0 b none inside in
    (e.0, b, inside, read, ap (λ (t : Item). t.area) (read-item bs e.0 b inside (sym read)) ∙ area)

-- Whether one free box has the allocator's size.

pub whole-listed : (v : BoxShelf) (bs : List FreeBox) (size : Size) (options : AllocatorOptions) (r : Rectangle)
    (answer : Bool)
    → v.entries ≡ map stored_item bs
    → IsStoredState v size options → r ≡ whole_rectangle size → (IsTrue answer ↔ Any (λ b. b.area ≡ r) bs)
    → (IsTrue answer ↔ Any (λ b. box_sides b ≡ sides_of size) (free_item_boxes v.entries))
whole-listed v bs size options r answer are stored e says = (
  λ t. there (subst (λ es. Contains (free_item_boxes es) (box_of r)) (sym are) (boxed bs r (exact-width r exact) (says.0 t))),
  λ any. says.1 (unboxed (options_of options) v.heads bs r (subst (AreListed (options_of options) v.heads) are stored.kept.listed)
      exact.unsigned
      (subst (λ es. Contains (free_item_boxes es) (box_of r)) are (back any))),
)
  where
    exact : IsSolid r
    exact =
        record {
          unsigned = subst IsUnsigned (sym e) (whole-unsigned size stored.simple.nonempty);
          nonempty = subst (λ (x : Box). IsNonempty x) (sym (ap box_of e)) stored.simple.nonempty;
        }

    there : Contains (free_item_boxes v.entries) (box_of r)
        → Any (λ b. box_sides b ≡ sides_of size) (free_item_boxes v.entries)
    there has =
        let is : box_of r ≡ whole_box (sides_of size) = ap box_of e ∙ whole-box size in
        (has.0, box_of r, has.1, has.2, ap box_sides is ∙ whole-sides (sides_of size))

    back : Any (λ b. box_sides b ≡ sides_of size) (free_item_boxes v.entries)
        → Contains (free_item_boxes v.entries) (box_of r)
    back any =
        let b = any.1 in
        let inside = All-contains (λ q. IsNonempty q × IsWithin (sides_of size) q) (free_item_boxes v.entries) b stored.simple.boxes
        (any.0, any.2, any.3) in
        let w : b.max.x - b.min.x ≡ natural size.width = ap (λ s. s.width) any.4 in
        let h' : b.max.y - b.min.y ≡ natural size.height = ap (λ s. s.height) any.4 in
        let F : ℕ → ℕ → ℕ → ℕ → Box = λ i j m n. record { min = record { x = i; y = j }; max = record { x = m; y = n } } in
        let x0 : b.min.x ≡ 0 = omega (arith, inside.0.0, inside.1.0) in
        let y0 : b.min.y ≡ 0 = omega (arith, inside.0.1, inside.1.1) in
        let x1 : b.max.x ≡ natural size.width = omega (arith, inside.0.0, inside.1.0) in
        let y1 : b.max.y ≡ natural size.height = omega (arith, inside.0.1, inside.1.1) in
        let is : b ≡ box_of (whole_rectangle size) = ap (λ i. F i b.min.y b.max.x b.max.y) x0 ∙
        (ap (λ j. F 0 j b.max.x b.max.y) y0 ∙ (ap (λ m. F 0 0 m b.max.y) x1 ∙ ap (λ n. F 0 0 (natural size.width) n) y1)) in
        subst (λ (x : Box). Contains (free_item_boxes v.entries) x) (is ∙ sym (ap box_of e)) (any.0, any.2, any.3)
