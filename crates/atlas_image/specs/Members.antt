-- What a used slot says of its place, by its neighbours. No public clause cites this module.
use Rattle.std.specs.Prelude.{ℕ, ◌≡◌, ◌≢◌, ◌<◌, ◌==◌, if◌then◌else◌, List, slice_index, slice_index_or}
use Rattle.atlas_image.specs.declared.order.Order.{Order}
use Rattle.atlas_image.specs.declared.members.Span.{Span}
use Rattle.atlas_search.specs.declared.link.Link.{Link}
use Rattle.atlas_search.specs.declared.cut.Orientation.{Orientation}
use Rattle.atlas_search.specs.declared.cut.Orientation.TheVariants as orientation
use Rattle.atlas_store.specs.declared.slots.Node.{Node}
use Rattle.atlas_store.specs.declared.slots.NodeKind.TheVariants as kind
use Rattle.atlas_model.specs.declared.geometry.Size.{Size}
use Rattle.atlas_model.specs.declared.geometry.Rectangle.{Rectangle}
use Rattle.atlas_model.specs.declared.options.AllocatorOptions.{AllocatorOptions}
use Rattle.std.specs.Prelude.{pos}
use Rattle.atlas_model.specs.Boxes.{box_sides}
use Rattle.atlas_model.specs.Pixels.{box_of, options_of}
use Rattle.atlas_model.specs.States.{IsAligned}
use Rattle.atlas_store.specs.Slots.{node_at, use_count}
use Rattle.atlas_search.specs.Numbers.{no_slot}
use Rattle.atlas_search.specs.Rectangles.{IsSolid, flipped}

abbrev pub IsUsed : Node → Type 0
IsUsed n = 0 < use_count n.kind

abbrev pub no_first : Link
no_first = record { number = no_slot }

-- The first member of the sequence that a slot holds, or of the top sequence.
abbrev pub first_in : {A : Type 0} → Order A → ℕ → Link
first_in o i = if i == no_slot then o.top else slice_index_or o.firsts.items i no_first

abbrev pub rank_in : {A : Type 0} → Order A → ℕ → ℕ
rank_in o i = slice_index o.ranks.items i

-- Where a rectangle lies along an axis.
abbrev pub span_in : Orientation → Rectangle → Span
span_in orientation.Horizontal r = record { low = r.min.x; high = r.max.x }
span_in orientation.Vertical r = record { low = r.min.y; high = r.max.y }

-- The rectangle of a whole atlas.
abbrev pub whole_rectangle : Size → Rectangle
whole_rectangle size = record { min = record { x = pos 0; y = pos 0 }; max = record { x = size.width; y = size.height } }

-- What the sequence of a member divides: the rectangle of its container, or the whole atlas.
abbrev pub frame_around : List Node → Size → Node → Rectangle
frame_around ns size n = if n.parent.number == no_slot then whole_rectangle size else (node_at ns n.parent.number).area

abbrev pub IsAcross : Node → Rectangle → Type 0
IsAcross n frame = span_in (flipped n.axis) n.area ≡ span_in (flipped n.axis) frame

-- A member of the container c.
pub record IsHeldBy (c : Node) (n : Node) : Type 0 where
  pub kind : c.kind ≡ kind.Container
  pub axis : n.axis ≡ flipped c.axis

pub record IsTopOrHeld {A : Type 0} (ns : List Node) (o : Order A) (n : Node) : Type 0 where
  pub top : n.parent.number ≡ no_slot → n.axis ≡ (node_at ns o.top.number).axis
  pub nested : n.parent.number ≢ no_slot → IsHeldBy (node_at ns n.parent.number) n

-- The first member begins where its sequence does.
pub record IsFirst {A : Type 0} (o : Order A) (i : ℕ) (n : Node) (frame : Rectangle) : Type 0 where
  pub low : (span_in n.axis n.area).low ≡ (span_in n.axis frame).low
  pub first : (first_in o n.parent.number).number ≡ i
  pub rank : n.parent.number ≢ no_slot → rank_in o n.parent.number < rank_in o i

-- A member that comes after another one, of rank `before`, begins where that ends.
pub record IsAfter (b : Node) (i : ℕ) (n : Node) (before after : ℕ) : Type 0 where
  pub used : IsUsed b
  pub next : b.next.number ≡ i
  pub parent : b.parent ≡ n.parent
  pub axis : b.axis ≡ n.axis
  pub low : (span_in n.axis n.area).low ≡ (span_in n.axis b.area).high
  pub rank : before < after

pub record IsFirstOrAfter {A : Type 0} (ns : List Node) (o : Order A) (i : ℕ) (n : Node) (frame : Rectangle) : Type 0 where
  pub first : n.previous.number ≡ no_slot → IsFirst o i n frame
  pub after : n.previous.number ≢ no_slot
      → IsAfter (node_at ns n.previous.number) i n (rank_in o n.previous.number) (rank_in o i)

-- A used slot that follows slot i.
pub record IsNextOf (n : Node) (i : ℕ) : Type 0 where
  pub used : IsUsed n
  pub previous : n.previous.number ≡ i

pub record IsEnded (ns : List Node) (i : ℕ) (n : Node) (frame : Rectangle) : Type 0 where
  pub last : n.next.number ≡ no_slot → (span_in n.axis n.area).high ≡ (span_in n.axis frame).high
  pub before : n.next.number ≢ no_slot → IsNextOf (node_at ns n.next.number) i

-- A first member of container i.
pub record IsFirstOf (n : Node) (i : ℕ) : Type 0 where
  pub used : IsUsed n
  pub parent : n.parent.number ≡ i
  pub previous : n.previous.number ≡ no_slot

abbrev pub IsLeafOrFilled : {A : Type 0} → List Node → Order A → (i : ℕ) → Node → Type 0
IsLeafOrFilled ns o i n = n.kind ≡ kind.Container → IsFirstOf (node_at ns (first_in o i).number) i

-- All that a used slot says of its place agrees with its neighbours.
pub record IsMember {A : Type 0} (ns : List Node) (o : Order A) (size : Size) (i : ℕ) (n : Node) : Type 0 where
  pub solid : IsSolid n.area
  pub across : IsAcross n (frame_around ns size n)
  pub held : IsTopOrHeld ns o n
  pub begun : IsFirstOrAfter ns o i n (frame_around ns size n)
  pub ended : IsEnded ns i n (frame_around ns size n)
  pub filled : IsLeafOrFilled ns o i n

-- No free member follows a free one, and that isn't alone in a container.
pub record IsSettledLeaf (ns : List Node) (n : Node) : Type 0 where
  pub apart : (node_at ns n.next.number).kind ≢ kind.Free
  pub nested : n.previous.number ≡ no_slot → n.next.number ≡ no_slot → n.parent.number ≡ no_slot

-- A used slot is one of a normal tree, and aligned where it is granted.
pub record IsNormalAndAligned (ns : List Node) (o : AllocatorOptions) (n : Node) : Type 0 where
  pub free : n.kind ≡ kind.Free → IsSettledLeaf ns n
  pub granted : n.kind ≡ kind.Alloc → IsAligned (options_of o) (box_sides (box_of n.area))
