-- How the slots of an atlas that grows change. No public clause cites this module.
use Rattle.std.specs.Prelude.{ℕ, ◌+◌, ◌<◌, ◌≡◌, Bool, true, false}
use Rattle.atlas_model.specs.declared.geometry.Size.{Size}
use Rattle.atlas_model.specs.declared.geometry.Rectangle.{Rectangle}
use Rattle.atlas_model.specs.Boxes.{Axis, Sides, other, side}
use Rattle.atlas_model.specs.Trees.{total}
use Rattle.atlas_store.specs.Slots.Links.{with_mark}
use Rattle.atlas_search.specs.Numbers.{no_slot}
use Rattle.atlas_store.specs.Slots.Numbered.{Numbered, edited_in, on_free, erase, first_slot, End, Free, Alloc, Seq}
use Rattle.atlas_store.specs.Slots.Standing.{Sequence}
use Rattle.atlas_store.specs.Stored.{Holding}

-- The number of the last member, or `before` where there is none.
abbrev pub last_after : (before : ℕ) → Numbered → ℕ
last_after before End = before
last_after before (Free i e rest) = last_after i rest
last_after before (Alloc i g e rest) = last_after i rest
last_after before (Seq i e inner rest) = last_after i rest

abbrev pub last_slot : Numbered → ℕ
last_slot n = last_after no_slot n

-- No member follows the first.
abbrev pub is_last : Numbered → Bool
is_last End = true
is_last (Free i e End) = true
is_last (Alloc i g e End) = true
is_last (Seq i e inner End) = true
is_last n = false

-- The last member of the top sequence becomes what `change` makes of it.
abbrev pub extended : (change : Numbered → Numbered) → Numbered → Numbered
extended change n = edited_in is_last (λ e m. m) change n

-- A free first member is d longer.
abbrev pub lengthened_by : (d : ℕ) → Numbered → Numbered
lengthened_by d n = on_free (λ i e rest. Free i (e + d) rest) n

-- A free member of extent d at slot k comes after the first, or alone.
abbrev pub with_free_after : (k d : ℕ) → Numbered → Numbered
with_free_after k d End = Free k d End
with_free_after k d (Free i e rest) = Free i e (Free k d rest)
with_free_after k d (Alloc i g e rest) = Alloc i g e (Free k d rest)
with_free_after k d (Seq i e inner rest) = Seq i e inner (Free k d rest)

-- The last member, if it is free, is d longer.
abbrev pub stretched : (d : ℕ) → Numbered → Numbered
stretched d n = extended (lengthened_by d) n

-- A free member of extent d at slot k comes last.
abbrev pub appended : (k d : ℕ) → Numbered → Numbered
appended k d n = extended (with_free_after k d) n

-- A container of slot c and of extent e holds the members, and a free leaf of extent d at slot k comes after it.
abbrev pub nested : (c k e d : ℕ) → Numbered → Numbered
nested c k e d n = Seq c e n (Free k d End)

-- A sequence of this length ends at the far corner of a size.
abbrev pub Reaches : Sides → Sequence → (length : ℕ) → Type 0
Reaches size s length = (length ≡ side s.axis size) × (s.start + s.width ≡ side (other s.axis) size)

-- The rectangle of a leaf that reaches to the far corner of a size.
abbrev pub stretched_area : Rectangle → Size → Rectangle
stretched_area area size = record area { max = record { x = size.width; y = size.height } }

-- A sequence held by slot `parent`.
abbrev pub held_by : (parent : ℕ) → Sequence → Sequence
held_by parent s = record s { parent = parent }

-- A top sequence as wide as this.
abbrev pub top_along : Axis → (width : ℕ) → Sequence
top_along axis width = record { parent = no_slot; axis = axis; start = 0; width = width }

-- The sequence of one free leaf, as wide as a size.
abbrev pub whole_sequence : Sides → Sequence → Sequence
whole_sequence size s = record s { width = side (other s.axis) size }

-- Slot `last` holds the last member; with d more the top sequence ends at the far corner of a size.
pub record IsEnd (size : Sides) (d last : ℕ) (h : Holding) : Type 0 where
  pub start : h.sequence.start ≡ 0
  pub ends : last_slot h.tree ≡ last
  pub some : 0 < total (erase h.tree)
  pub along : total (erase h.tree) + d ≡ side h.sequence.axis size
  pub across : h.sequence.width ≡ side (other h.sequence.axis) size

-- Slot `at` is one free leaf.
pub record IsLone (at : ℕ) (h : Holding) : Type 0 where
  pub start : h.sequence.start ≡ 0
  pub extent : ℕ
  pub tree : h.tree ≡ Free at extent End

-- The top sequence begins at slot `first`, and spans a size.
pub record IsSpanning (size : Sides) (first : ℕ) (h : Holding) : Type 0 where
  pub start : h.sequence.start ≡ 0
  pub begins : first_slot h.tree ≡ first
  pub some : 0 < total (erase h.tree)
  pub along : total (erase h.tree) ≡ side h.sequence.axis size
  pub across : h.sequence.width ≡ side (other h.sequence.axis) size

-- The second size is as long along an axis, and d wider across.
abbrev pub IsWider : Axis → (inner size : Sides) → (d : ℕ) → Type 0
IsWider axis inner size d = (side axis size ≡ side axis inner) × (side (other axis) inner + d ≡ side (other axis) size)

-- The last member of the top sequence is a free leaf, and d longer.
abbrev pub after_stretch : (d : ℕ) → Holding → Holding
after_stretch d h = record h { tree = stretched d h.tree }

-- The one free leaf of slot `at` is as large as a size.
abbrev pub after_whole : Sides → (at : ℕ) → Holding → Holding
after_whole size at h =
    record h { sequence = whole_sequence size h.sequence; tree = Free at (side h.sequence.axis size) End }

-- Slot k holds a detached leaf of extent d that comes last in the top sequence.
abbrev pub after_append : (k d : ℕ) → Holding → Holding
after_append k d h = record h { tree = appended k d h.tree; detached = with_mark h.detached k true }

-- Slot c holds what was the top sequence, and slot k a detached leaf of extent d that comes after it.
abbrev pub after_nest : (c k d : ℕ) → Holding → Holding
after_nest c k d h =
    record h {
      sequence = top_along (other h.sequence.axis) (total (erase h.tree));
      tree = nested c k h.sequence.width d h.tree;
      detached = with_mark h.detached k true;
    }
