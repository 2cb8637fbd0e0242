-- What walks of the slots show: the leaves in the order of the slots, and the calls of a callback.
use Rattle.std.specs.Prelude.{ℕ, ◌≡◌, ◌+◌, ◌/◌, ◌==◌, ◌&&◌, Bool, true, false, List, [], ◌∷◌, Option, Some, None}
use Rattle.std.specs.Prelude.{if◌then◌else◌, All, map}
use Rattle.std.specs.Borrow.{Bor}
use Rattle.std.specs.Fn.{Mut, Called}
use Rattle.atlas_store.specs.declared.slots.Node.{Node}
use Rattle.atlas_store.specs.declared.slots.NodeKind.{NodeKind}
use Rattle.atlas_store.specs.declared.slots.NodeKind.TheVariants as kind
use Rattle.atlas_model.specs.declared.allocation.Allocation.{Allocation}
use Rattle.atlas_model.specs.declared.geometry.Rectangle.{Rectangle}
use Rattle.atlas_model.specs.Boxes.{AreSameBoxes}
use Rattle.atlas_model.specs.Pixels.{box_of}
use Rattle.atlas_model.specs.Trees.{most_slots, slot_of}
use Rattle.atlas_model.specs.States.{State, free_in}
use Rattle.atlas_model.specs.Replies.{IsLiveList, IsExact, grant_of}
use Rattle.atlas_store.specs.Slots.{node_at}
use Rattle.atlas_store.specs.Slots.Lists.{is_free}
use Rattle.atlas_store.specs.Slots.Numbered.{id_of}

-- The live grants by rising slot, each with its exact rectangle.
pub record AreGrants (s : State) (grants : List Allocation) : Type 0 where
  pub list : IsLiveList s (map grant_of grants)
  pub exact : All (λ (a : Allocation). IsExact a.rectangle) grants

-- The free boxes, each as often as it is free, in some order, as exact rectangles.
pub record AreFreeAreas (s : State) (areas : List Rectangle) : Type 0 where
  pub list : AreSameBoxes (map box_of areas) (free_in s)
  pub exact : All IsExact areas

-- A call at an id and at a `&` to its rectangle.
pub record CalledAtGrant {F : Type 0} (g : Mut F (ℕ × (Bor Rectangle × Unit {0})) (Unit {0})) (f : F) (x : Allocation)
    (f' : F) : Type 0 where
  pub shown : Bor Rectangle
  pub shows : shown.now ≡ x.rectangle
  pub called : Called g f (x.id, (shown, tt)) tt f'

abbrev pub is_alloc : NodeKind → Bool
is_alloc kind.Alloc = true
is_alloc _ = false

-- What the slot i shows if it is allocated.
abbrev pub allocation_at : ℕ → Node → Allocation
allocation_at i n = record { id = id_of i n.generation; rectangle = n.area }

-- The allocated slots, in order, where the first slot has the number i.
abbrev pub allocated_from : ℕ → List Node → List Allocation
allocated_from i [] = []
allocated_from i (n ∷ ns) =
    if is_alloc n.kind then allocation_at i n ∷ allocated_from (i + 1) ns else allocated_from (i + 1) ns

-- The rectangles of the free slots, in order.
abbrev pub free_areas : List Node → List Rectangle
free_areas [] = []
free_areas (n ∷ ns) = if is_free n.kind then n.area ∷ free_areas ns else free_areas ns

-- Whether the slot that an id names is allocated under it.
abbrev pub is_named : List Node → ℕ → Bool
is_named ns id = is_alloc (node_at ns (slot_of id)).kind && ((node_at ns (slot_of id)).generation == id / most_slots)

-- The rectangle of an allocated slot, by its id.
abbrev pub named_area : List Node → ℕ → Option Rectangle
named_area ns id = if is_named ns id then Some (node_at ns (slot_of id)).area else None
