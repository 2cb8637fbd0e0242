-- A rehearsal of freeings: which members of a tree are open, and the runs of them. No public clause cites this module, but for
-- that of `AreShown`.
use Rattle.std.specs.Prelude.{ℕ, ◌+◌, ◌≡◌, ◌&&◌, ◌||◌, ◌⊎◌, Bool, true, false, List, if◌then◌else◌, slice_index_or, zero, suc, ◌<◌}
use Rattle.atlas_store.specs.declared.slots.Node.{Node}
use Rattle.atlas_model.specs.Boxes.{Box}
use Rattle.atlas_model.specs.Trees.{Members}
use Rattle.atlas_model.specs.Trees as tree
use Rattle.atlas_store.specs.Slots.{node_at, use_count}
use Rattle.atlas_search.specs.Numbers.{no_slot}
use Rattle.atlas_store.specs.Slots.Lists.{is_free}
use Rattle.atlas_store.specs.Slots.Numbered.{Numbered, id_of, End, Free, Alloc, Seq}
use Rattle.atlas_store.specs.Slots.Standing.{Sequence, Stands, inside, member_box}

-- Whether slot i is free, or is marked as shown free.
abbrev pub is_open : List Node → List Bool → ℕ → Bool
is_open ns marks i = is_free (node_at ns i).kind || slice_index_or marks i false

-- Whether all members of a sequence are open.
abbrev pub all_open : (o : ℕ → Bool) → Numbered → Bool
all_open o End = true
all_open o (Free i e rest) = o i && all_open o rest
all_open o (Alloc i g e rest) = o i && all_open o rest
all_open o (Seq i e inner rest) = o i && all_open o rest

-- Free leaves are open; allocated leaves are exactly if the set has their ids; and containers, but for the one at slot `hole`, exactly
-- if all their members are.
abbrev pub ShowsBut : (hole : ℕ) → (o set : ℕ → Bool) → Numbered → Type 0
ShowsBut hole o set End = Unit {0}
ShowsBut hole o set (Free i e rest) = (o i ≡ true) × ShowsBut hole o set rest
ShowsBut hole o set (Alloc i g e rest) = (o i ≡ set (id_of i g)) × ShowsBut hole o set rest
ShowsBut hole o set (Seq i e inner rest) =
    ((i ≡ hole → ⊥) → o i ≡ all_open o inner) × ShowsBut hole o set inner × ShowsBut hole o set rest

-- The same of each container.
abbrev pub Shows : (o set : ℕ → Bool) → Numbered → Type 0
Shows o set End = Unit {0}
Shows o set (Free i e rest) = (o i ≡ true) × Shows o set rest
Shows o set (Alloc i g e rest) = (o i ≡ set (id_of i g)) × Shows o set rest
Shows o set (Seq i e inner rest) = (o i ≡ all_open o inner) × Shows o set inner × Shows o set rest

-- The tree in which each open member is a free leaf.
abbrev pub opened : (o : ℕ → Bool) → Numbered → Members
opened o End = tree.End
opened o (Free i e rest) = tree.Free e (opened o rest)
opened o (Alloc i g e rest) =
    if o i then tree.Free e (opened o rest) else tree.Alloc (id_of i g) e (opened o rest)
opened o (Seq i e inner rest) =
    if o i then tree.Free e (opened o rest) else tree.Seq e (opened o inner) (opened o rest)

-- How long the run of open members is that a sequence begins with.
abbrev pub run_length : (o : ℕ → Bool) → Numbered → ℕ
run_length o End = 0
run_length o (Free i e rest) = if o i then e + run_length o rest else 0
run_length o (Alloc i g e rest) = if o i then e + run_length o rest else 0
run_length o (Seq i e inner rest) = if o i then e + run_length o rest else 0

-- The box is that of a longest run of open members of a sequence that isn't open as a whole, or of the top one. From p on the members
-- of s are these, and `after_open` says whether an open one comes before them.
abbrev pub IsRunIn : (o : ℕ → Bool) → (box : Box) → (after_open : Bool) → Sequence → (p : ℕ) → Numbered → Type 0
IsRunIn o box after_open s p End = ⊥
IsRunIn o box after_open s p (Free i e rest) =
    ((after_open ≡ false) × (o i ≡ true) × (box ≡ member_box s p (run_length o (Free i e rest))))
    ⊎ IsRunIn o box (o i) s (p + e) rest
IsRunIn o box after_open s p (Alloc i g e rest) =
    ((after_open ≡ false) × (o i ≡ true) × (box ≡ member_box s p (run_length o (Alloc i g e rest))))
    ⊎ IsRunIn o box (o i) s (p + e) rest
IsRunIn o box after_open s p (Seq i e inner rest) =
    ((after_open ≡ false) × (o i ≡ true) × (box ≡ member_box s p (run_length o (Seq i e inner rest))))
    ⊎ ((o i ≡ false) × IsRunIn o box false (inside s i p e) s.start inner)
    ⊎ IsRunIn o box (o i) s (p + e) rest

-- From slot low on, count members that follow one another are open, and slot high comes after them.
abbrev pub OpenLine : List Node → (o : ℕ → Bool) → (count low high : ℕ) → Type 0
OpenLine ns o zero low high = low ≡ high
OpenLine ns o (suc count) low high = (o low ≡ true) × OpenLine ns o count (node_at ns low).next.number high

-- A slot is used.
abbrev pub IsUsedAt : List Node → ℕ → Type 0
IsUsedAt ns i = 0 < use_count (node_at ns i).kind

-- Slot low is the first of the open members that come without a gap before slot i, or slot i itself.
pub record IsRunStart (ns : List Node) (o : ℕ → Bool) (low i : ℕ) : Type 0 where
  pub used : IsUsedAt ns low
  pub line : (count : ℕ) × OpenLine ns o count low i
  pub before : o (node_at ns low).previous.number ≡ false

-- Slot high is the last of those that come after it. Slot i is open.
pub record IsRunEnd (ns : List Node) (o : ℕ → Bool) (i high : ℕ) : Type 0 where
  pub used : IsUsedAt ns high
  pub line : (count : ℕ) × OpenLine ns o count i high
  pub last : o high ≡ true
  pub after : o (node_at ns high).next.number ≡ false

-- The id of the leaf at slot i.
abbrev pub leaf_id : List Node → (i : ℕ) → ℕ
leaf_id ns i = id_of i (node_at ns i).generation

-- The slots hold the whole tree n, in the sequence s, and the marks show a set of ids.
pub record AreShownIn (ns : List Node) (marks : List Bool) (set : ℕ → Bool) (s : Sequence) (n : Numbered) : Type 0 where
  pub top : s.parent ≡ no_slot
  pub stands : Stands ns s n
  pub shown : Shows (is_open ns marks) set n
