-- That nodes are those of an atlas. No public clause cites this module.
use Rattle.std.specs.Prelude.{ℕ, ◌+◌, ◌≡◌, List, zero, suc}
use Rattle.atlas_image.specs.declared.order.Order.{Order}
use Rattle.atlas_search.specs.declared.link.Link.{Link}
use Rattle.atlas_store.specs.declared.slots.Node.{Node}
use Rattle.atlas_store.specs.declared.slots.NodeKind.TheVariants as kind
use Rattle.atlas_model.specs.declared.geometry.Size.{Size}
use Rattle.atlas_model.specs.declared.options.AllocatorOptions.{AllocatorOptions}
use Rattle.atlas_model.specs.Boxes.{Axis, Sides, box_sides, other, side}
use Rattle.atlas_model.specs.Pixels.{box_of, options_of, sides_of}
use Rattle.atlas_model.specs.States.{IsAligned}
use Rattle.atlas_model.specs.Trees.{IsCut, IsNormal, total}
use Rattle.atlas_store.specs.Store.Restoring.{IsUnusedLine}
use Rattle.atlas_store.specs.Slots.{node_at, use_count}
use Rattle.atlas_store.specs.Slots.Growing.{top_along}
use Rattle.atlas_store.specs.Slots.Numbered.{Numbered, erase, first_slot}
use Rattle.atlas_store.specs.Slots.Standing.{Stands}
use Rattle.atlas_image.specs.Members.{IsMember, IsNormalAndAligned, IsUsed}

-- Each used slot agrees with its neighbours.
pub record AreMembers {A : Type 0} (ns : List Node) (o : Order A) (size : Size) (options : AllocatorOptions) : Type 0
  where
    pub members : (i : ℕ) → IsUsed (node_at ns i) → IsMember ns o size i (node_at ns i)
    pub settled : (i : ℕ) → IsUsed (node_at ns i) → IsNormalAndAligned ns options (node_at ns i)

-- How many of the first m slots are used.
abbrev pub used_below : List Node → (m : ℕ) → ℕ
used_below ns zero = 0
used_below ns (suc m) = use_count (node_at ns m).kind + used_below ns m

-- The nodes stand for the tree n of an atlas of this size, whose first member is that of slot `start`.
pub record IsTreeOfNodes (ns : List Node) (size : Sides) (options : AllocatorOptions) (start : ℕ) (n : Numbered) : Type 0
  where
    pub axis : Axis
    pub stands : Stands ns (top_along axis (side (other axis) size)) n
    pub cut : IsCut (side (other axis) size) (erase n)
    pub along : total (erase n) ≡ side axis size
    pub first : first_slot n ≡ start
    pub normal : IsNormal (erase n)
    pub aligned : (i : ℕ) → (node_at ns i).kind ≡ kind.Alloc
        → IsAligned (options_of options) (box_sides (box_of (node_at ns i).area))

-- The nodes are those of an atlas, and the list of the unused ones begins at this one.
pub record AreImaged (ns : List Node) (unused : Link) (size : Size) (options : AllocatorOptions) (first : Link)
    : Type 0 where
  pub tree : (n : Numbered) × IsTreeOfNodes ns (sides_of size) options first.number n
  pub line : (xs : List ℕ) × IsUnusedLine ns unused.number xs
