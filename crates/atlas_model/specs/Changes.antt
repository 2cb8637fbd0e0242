-- What placing, freeing and growing make of a tree of cuts.
use Rattle.std.specs.Prelude.{ℕ, ◌+◌, ◌-◌, ◌==◌, nat_lt, Bool, ◌||◌, if◌then◌else◌}
use Rattle.atlas_model.specs.Boxes.{Axis, Position, Sides, Box, other, same_axis, side, sized, moved, box_at, box_sides}
use Rattle.atlas_model.specs.Boxes.{same_box, origin}
use Rattle.atlas_model.specs.Cuts.{Cut, cut}
use Rattle.atlas_model.specs.Cuts.Cut.{Whole, Strip, Corner}
use Rattle.atlas_model.specs.Trees.{Members, Tree, node_count}
use Rattle.atlas_model.specs.Trees.Members.{End, Free, Alloc, Seq}

-- A free extent before members: added to the first if that is free.
abbrev pub free_before : ℕ → Members → Members
free_before e (Free e' rest) = Free (e + e') rest
free_before e rest = Free e rest

-- A sequence before members: replaced by its one free member, if it has no other.
abbrev pub seq_before : ℕ → Members → Members → Members
seq_before e (Free e' End) rest = free_before e rest
seq_before e inner rest = Seq e inner rest

-- The normal form, from the leaves up: neighbouring free members are added up, and a sequence of one free member is
-- that member.
abbrev pub nf : Members → Members
nf End = End
nf (Free e rest) = free_before e (nf rest)
nf (Alloc id e rest) = Alloc id e (nf rest)
nf (Seq e inner rest) = seq_before e (nf inner) (nf rest)

-- The leaves of the ids of a set made free.
abbrev pub mark : (ℕ → Bool) → Members → Members
mark s End = End
mark s (Free e rest) = Free e (mark s rest)
mark s (Alloc id e rest) = if s id then Free e (mark s rest) else Alloc id e (mark s rest)
mark s (Seq e inner rest) = Seq e (mark s inner) (mark s rest)

-- The set of one id.
abbrev pub only : ℕ → ℕ → Bool
only id k = k == id

-- A set with one id more.
abbrev pub and_id : (ℕ → Bool) → ℕ → ℕ → Bool
and_id s id k = s k || k == id

-- The tree once the ids of a set are freed; the top sequence is joined, and never replaced.
abbrev pub release : (ℕ → Bool) → Tree → Tree
release s t = record { axis = t.axis; members = nf (mark s t.members) }

-- What stands in place of a free member of extent e in a sequence along `axis` that spans `across`, for p of the
-- request along that axis and q of it across.
abbrev pub put : Cut → (axis : Axis) → (e across p q id : ℕ) → Members → Members
put Whole axis e across p q id rest = Alloc id e rest
put (Strip a) axis e across p q id rest =
    if same_axis a axis then Alloc id p (Free (e - p) rest) else Seq e (Alloc id q (Free (across - q) End)) rest
put (Corner a) axis e across p q id rest =
    if same_axis a axis
    then Seq p (Alloc id q (Free (across - q) End)) (Free (e - p) rest)
    else Seq e (Seq q (Alloc id p (Free (e - p) End)) (Free (across - q) End)) rest

-- Members that begin at a position and run along an axis, in a sequence that spans `across`, with a request placed in
-- the free leaf of a box.
abbrev pub placed : (f : Box) (r : Sides) (id : ℕ) → Axis → Position → (across : ℕ) → Members → Members
placed f r id axis o across End = End
placed f r id axis o across (Free e rest) =
    if same_box (box_at o (sized axis e across)) f
    then put (cut (box_sides f) r) axis e across (side axis r) (side (other axis) r) id
    (placed f r id axis (moved axis o e) across rest)
    else Free e (placed f r id axis (moved axis o e) across rest)
placed f r id axis o across (Alloc i e rest) = Alloc i e (placed f r id axis (moved axis o e) across rest)
placed f r id axis o across (Seq e inner rest) =
    Seq e (placed f r id (other axis) o e inner) (placed f r id axis (moved axis o e) across rest)

-- The tree once a request is placed in the free leaf of a box.
abbrev pub place : Sides → Box → Sides → ℕ → Tree → Tree
place size f r id t =
    record { axis = t.axis; members = placed f r id t.axis origin (side (other t.axis) size) t.members }

-- The tree of an atlas in which nothing was granted yet.
abbrev pub fresh : Sides → Tree
fresh size = record { axis = Axis.Vertical; members = Free size.height End }

-- Members lengthened by d: the last if it is free, or else by one more.
abbrev pub lengthened : ℕ → Members → Members
lengthened d End = Free d End
lengthened d (Free e End) = Free (e + d) End
lengthened d (Free e rest) = Free e (lengthened d rest)
lengthened d (Alloc id e rest) = Alloc id e (lengthened d rest)
lengthened d (Seq e inner rest) = Seq e inner (lengthened d rest)

-- The same where there is anything to add.
abbrev pub lengthened_to : (old new : ℕ) → Members → Members
lengthened_to old new members = if nat_lt old new then lengthened (new - old) members else members

-- What a tree becomes that is to grow across its axis too: the first of two members along the other axis.
abbrev pub widened : (old new : ℕ) → Axis → Members → Tree
widened old new axis members =
    if nat_lt old new
    then record { axis = other axis; members = Seq old members (Free (new - old) End) }
    else record { axis = axis; members = members }

-- Members of a tree of an atlas along an axis, grown to a new size; one free member alone keeps its axis.
abbrev pub grown_members : (old new : Sides) → Axis → Members → Tree
grown_members old new axis (Free e End) = record { axis = axis; members = Free (side axis new) End }
grown_members old new axis members =
    widened (side (other axis) old) (side (other axis) new) axis (lengthened_to (side axis old) (side axis new) members)

-- The tree of an atlas once it has grown.
abbrev pub grown : (old new : Sides) → Tree → Tree
grown old new t = grown_members old new t.axis t.members

-- How many members a cut adds to a sequence along an axis.
abbrev pub need : Cut → Axis → ℕ
need Whole axis = 0
need (Strip a) axis = if same_axis a axis then 1 else 2
need (Corner a) axis = if same_axis a axis then 3 else 4

-- How many members a request adds that is placed in the free leaf of a box.
abbrev pub needed : (f : Box) (r : Sides) → Axis → Position → (across : ℕ) → Members → ℕ
needed f r axis o across End = 0
needed f r axis o across (Free e rest) =
    (if same_box (box_at o (sized axis e across)) f then need (cut (box_sides f) r) axis else 0)
    + needed f r axis (moved axis o e) across rest
needed f r axis o across (Alloc i e rest) = needed f r axis (moved axis o e) across rest
needed f r axis o across (Seq e inner rest) =
    needed f r (other axis) o e inner + needed f r axis (moved axis o e) across rest

abbrev pub place_need : Sides → Box → Sides → Tree → ℕ
place_need size f r t = needed f r t.axis origin (side (other t.axis) size) t.members

-- How many members a growth adds.
abbrev pub grow_need : (old new : Sides) → Tree → ℕ
grow_need old new t = node_count (grown old new t).members - node_count t.members
