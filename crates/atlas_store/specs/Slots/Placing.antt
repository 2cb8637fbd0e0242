-- How a free leaf gives way to a request by a plan: the slots that this takes, what is written in them, and what the tree
-- becomes. No public clause cites this module.
use Rattle.std.specs.Prelude.{ℕ, ◌-◌, ◌<◌, ◌≤◌, ◌≡◌, ◌≢◌, Bool, true, false, List, [], ◌∷◌, length}
use Rattle.atlas_search.specs.declared.link.Link.{Link}
use Rattle.atlas_store.specs.declared.slots.Node.{Node}
use Rattle.atlas_store.specs.declared.slots.NodeKind.{NodeKind}
use Rattle.atlas_store.specs.declared.slots.NodeKind.TheVariants as kind
use Rattle.atlas_store.specs.declared.slots.placing.Parts.{Parts}
use Rattle.atlas_store.specs.declared.slots.placing.Plan.{Plan}
use Rattle.atlas_store.specs.declared.slots.placing.Plan.TheVariants as plan
use Rattle.atlas_model.specs.Boxes.{other, side, box_sides}
use Rattle.atlas_model.specs.Pixels.{box_of}
use Rattle.atlas_store.specs.Slots.{node_at, axis_of}
use Rattle.atlas_search.specs.Numbers.{no_slot, occurs}
use Rattle.atlas_store.specs.Slots.Links.{with_mark}
use Rattle.atlas_store.specs.Slots.Numbered.{Numbered, edited_in, is_free_at, on_free, End, Free, Alloc, Seq}
use Rattle.atlas_store.specs.Slots.Parts.{front_node, back_node, inner_node}
use Rattle.atlas_store.specs.Slots.Reading.{extent_of}

-- The side of a leaf across the sequence that holds it.
abbrev pub across_of : Node → ℕ
across_of leaf = side (other (axis_of leaf.axis)) (box_sides (box_of leaf.area))

-- The plan can be carried out: what it cuts off is neither nothing nor all.
abbrev pub IsFeasible : Plan → (along across : ℕ) → Type 0
IsFeasible plan.Whole along across = Unit {0}
IsFeasible (plan.StripAlong p) along across = (0 < p) × (p < along)
IsFeasible (plan.CornerAlong p q) along across = (0 < p) × (p < along) × (0 < q) × (q < across)
IsFeasible (plan.StripAcross q) along across = (0 < q) × (q < across)
IsFeasible (plan.CornerAcross p q) along across = (0 < p) × (p < along) × (0 < q) × (q < across)

-- The slots that a plan takes, the last one first.
abbrev pub taken_by : Plan → Parts → List ℕ
taken_by plan.Whole t = []
taken_by (plan.StripAlong p) t = t.split.number ∷ []
taken_by (plan.CornerAlong p q) t = t.leftover.number ∷ t.granted.number ∷ t.split.number ∷ []
taken_by (plan.StripAcross q) t = t.granted.number ∷ t.split.number ∷ []
taken_by (plan.CornerAcross p q) t =
    t.leftover.number ∷ t.granted.number ∷ t.container.number ∷ t.split.number ∷ []

-- How many they are.
abbrev pub slots_of : Plan → ℕ
slots_of plan.Whole = 0
slots_of (plan.StripAlong p) = 1
slots_of (plan.CornerAlong p q) = 3
slots_of (plan.StripAcross q) = 2
slots_of (plan.CornerAcross p q) = 4

-- Those of them that are free leaves.
abbrev pub left_by : Plan → Parts → List ℕ
left_by plan.Whole t = []
left_by (plan.StripAlong p) t = t.split.number ∷ []
left_by (plan.CornerAlong p q) t = t.split.number ∷ t.leftover.number ∷ []
left_by (plan.StripAcross q) t = t.split.number ∷ []
left_by (plan.CornerAcross p q) t = t.split.number ∷ t.leftover.number ∷ []

-- The slot that is granted in place of the leaf of slot `at`.
abbrev pub granted_by : Plan → Parts → (at : ℕ) → ℕ
granted_by plan.Whole t at = at
granted_by (plan.StripAlong p) t at = at
granted_by (plan.CornerAlong p q) t at = t.granted.number
granted_by (plan.StripAcross q) t at = t.granted.number
granted_by (plan.CornerAcross p q) t at = t.granted.number

-- What stands in place of a free member in a sequence that spans `across`; g is the generation of the granted slot.
abbrev pub put_by : Plan → Parts → (g across : ℕ) → (slot extent : ℕ) → Numbered → Numbered
put_by plan.Whole t g across i e rest = Alloc i g e rest
put_by (plan.StripAlong p) t g across i e rest = Alloc i g p (Free t.split.number (e - p) rest)
put_by (plan.CornerAlong p q) t g across i e rest =
    Seq i p (Alloc t.granted.number g q (Free t.leftover.number (across - q) End)) (Free t.split.number (e - p) rest)
put_by (plan.StripAcross q) t g across i e rest =
    Seq i e (Alloc t.granted.number g q (Free t.split.number (across - q) End)) rest
put_by (plan.CornerAcross p q) t g across i e rest =
    Seq i e (Seq t.container.number q (Alloc t.granted.number g p (Free t.leftover.number (e - p) End))
    (Free t.split.number (across - q) End)) rest

abbrev pub putting : Plan → Parts → (g : ℕ) → (across : ℕ) → Numbered → Numbered
putting p t g across = on_free (put_by p t g across)

-- In a sequence that spans `across` the free leaf at slot i gives way to what the plan says.
abbrev pub planned : Plan → Parts → (i g : ℕ) → (across : ℕ) → Numbered → Numbered
planned p t i g across n = edited_in (is_free_at i) (putting p t g) (putting p t g across) n

-- Where a leaf is cut after p, slot `front` has the first part, used as k says, and slot `back` the rest.
pub record IsCutInto (ns ms : List Node) (leaf : Node) (p : ℕ) (front : Link) (k : NodeKind) (back : Link) : Type 0
  where
    pub first : node_at ms front.number ≡ record (front_node leaf p back) { kind = k }
    pub rest : node_at ms back.number ≡ back_node leaf p front (node_at ns back.number)
    pub others : (i : ℕ) → i ≢ front.number → i ≢ back.number → node_at ms i ≡ node_at ns i

-- The two parts of a leaf that is cut, where other slots may change too.
abbrev pub HasParts : (ns ms : List Node) (leaf : Node) (p : ℕ) (front : Link) (k : NodeKind) (back : Link) → Type 0
HasParts ns ms leaf p front k back =
    (node_at ms front.number ≡ record (front_node leaf p back) { kind = k })
    × (node_at ms back.number ≡ back_node leaf p front (node_at ns back.number))

-- What is written in the slot of a leaf and in those that a plan takes.
abbrev pub AreWritten : Plan → Parts → (at : Link) (leaf : Node) (ns ms : List Node) → Type 0
AreWritten plan.Whole t at leaf ns ms = node_at ms at.number ≡ record leaf { kind = kind.Alloc }
AreWritten (plan.StripAlong p) t at leaf ns ms = HasParts ns ms leaf p at kind.Alloc t.split
AreWritten (plan.CornerAlong p q) t at leaf ns ms =
    HasParts ns ms leaf p at kind.Container t.split
    × HasParts ns ms (inner_node (front_node leaf p t.split) at (node_at ns t.granted.number)) q t.granted kind.Alloc
    t.leftover
AreWritten (plan.StripAcross q) t at leaf ns ms =
    (node_at ms at.number ≡ record leaf { kind = kind.Container })
    × HasParts ns ms (inner_node leaf at (node_at ns t.granted.number)) q t.granted kind.Alloc t.split
AreWritten (plan.CornerAcross p q) t at leaf ns ms =
    (node_at ms at.number ≡ record leaf { kind = kind.Container })
    × HasParts ns ms (inner_node leaf at (node_at ns t.container.number)) q t.container kind.Container t.split
    × HasParts ns ms (inner_node (front_node (inner_node leaf at (node_at ns t.container.number)) q t.split)
    t.container
    (node_at ns t.granted.number)) p t.granted kind.Alloc t.leftover

-- What comes after the leaf follows the part that is last in its place.
abbrev pub following : Plan → Parts → Node → Node
following (plan.StripAlong p) t n = record n { previous = t.split }
following (plan.CornerAlong p q) t n = record n { previous = t.split }
following p t n = n

-- Slot `at` is a free leaf in which a plan can be carried out, and the slots of its parts are unused, each another one.
pub record CanPlace (ns : List Node) (at : ℕ) (p : Plan) (t : Parts) : Type 0 where
  pub free : (node_at ns at).kind ≡ kind.Free
  pub feasible : IsFeasible p (extent_of (node_at ns at)) (across_of (node_at ns at))
  pub unused : (i : ℕ) → 0 < occurs i (taken_by p t) → (node_at ns i).kind ≡ kind.Unused
  pub inside : (i : ℕ) → 0 < occurs i (taken_by p t) → i < length ns
  pub once : (i : ℕ) → occurs i (taken_by p t) ≤ 1

-- A plan was carried out in the free leaf at `at`.
pub record IsCarriedOut (ns ms : List Node) (at : Link) (p : Plan) (t : Parts) : Type 0 where
  pub written : AreWritten p t at (node_at ns at.number) ns ms
  pub moved : (node_at ns at.number).next.number ≢ no_slot
      → node_at ms (node_at ns at.number).next.number ≡ following p t (node_at ns (node_at ns at.number).next.number)
  pub stays : (node_at ns at.number).next.number ≡ no_slot
      → node_at ms (node_at ns at.number).next.number ≡ node_at ns (node_at ns at.number).next.number
  pub others : (i : ℕ) → i ≢ at.number → i ≢ (node_at ns at.number).next.number → occurs i (taken_by p t) ≡ 0
      → node_at ms i ≡ node_at ns i

-- These slots are marked, and no other.
abbrev pub marks_of : List ℕ → ℕ → Bool
marks_of [] i = false
marks_of (x ∷ xs) i = with_mark (marks_of xs) x true i
