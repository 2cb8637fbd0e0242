-- What an atlas shows of its state, read from its slots.
use Rattle.std.proofs.Common.{ℕ, ◌<◌, ◌≤◌, ◌≡◌, Bool, List, [], map, length, sym, ap, subst, ◌∙◌, arith}
use Rattle.std.proofs.lemmas.List.{length-map}
use Rattle.std.specs.List.{count_by}
use Rattle.atlas_model.specs.Boxes.{Axis, Box, side, origin}
use Rattle.atlas_model.specs.Boxes.Axis.{Horizontal, Vertical}
use Rattle.atlas_model.specs.Pixels.{box_of, sides_of}
use Rattle.atlas_model.specs.Replies.{grant_of}
use Rattle.atlas_store.specs.Slots.{nodes, node_at, node_of}
use Rattle.atlas_search.specs.Numbers.{no_slot}
use Rattle.atlas_store.specs.Slots.Numbered.{Numbered, first_slot, erase}
use Rattle.atlas_store.specs.Slots.Reading.{tree_of}
use Rattle.atlas_store.specs.Slots.Standing.{Sequence, Stands, spot}
use Rattle.atlas_store.specs.Stored.{Stored, IsAtlas}
use Rattle.atlas_model.specs.Trees.{Grant, Members, IsOneFree, total, live, free_boxes}
use Rattle.atlas_store.specs.Visits.{allocated_from, free_areas}
use Rattle.atlas_store.specs.declared.slots.Node.{Node}
use Rattle.atlas_store.specs.declared.slots.Slot.{Slot}
use Rattle.atlas_store.specs.declared.slots.NodeKind.TheVariants as kind
use Rattle.atlas_model.specs.Trees as tree
use Rattle.atlas_store.specs.Slots.Numbered.{End, Free}
use Rattle.atlas_model.proofs.TreeLemmas.TreeBasics.{live_among, free_among}
use Rattle.atlas_model.proofs.TreeLemmas.TreeIdle.{nothing_live}
use Rattle.atlas_store.proofs.SlotLemmas.Frames.{same-self}
use Rattle.atlas_store.proofs.SlotLemmas.JoinWrites.{none-unused, used-inside}
use Rattle.atlas_store.proofs.SlotLemmas.ReadTrees.{HasMember, tree_of-Stands, members_of-Stands}
use Rattle.atlas_store.proofs.SlotLemmas.Normal.{numbers-erase}
use Rattle.atlas_store.proofs.SlotLemmas.LeafCounts.{live-Stands, free-Stands}

-- Members that fill a side are some.
pub nonempty-total : (n : Numbered) → 0 < total (erase n) → HasMember n
nonempty-total End h = absurd (omega arith)
nonempty-total n h = omega (arith, same-self)

pub origin-spot : (a : Axis) (start : ℕ) → start ≡ 0 → origin ≡ spot a 0 start
origin-spot Horizontal start e = let back : 0 ≡ start = sym e in λ i. record { x = 0; y = back i }
origin-spot Vertical start e = let back : 0 ≡ start = sym e in λ i. record { x = back i; y = 0 }

pub nodes-short : (slots : List Slot) → length slots ≤ 16777216 → length (nodes slots) ≤ 16777216
nodes-short slots h = omega (arith, length-map slots node_of)

pub nodes-below : (slots : List Slot) → length slots ≤ 16777216 → length (nodes slots) < no_slot
nodes-below slots h = omega (arith, length-map slots node_of)

-- A member that nothing follows is the last.
lone : (ns : List Node) (s : Sequence) (n : Numbered) → length ns < no_slot → Stands ns s n → HasMember n
    → (node_at ns (first_slot n)).kind ≡ kind.Free → (node_at ns (first_slot n)).next.number ≡ no_slot
    → (i : ℕ) × (e : ℕ) × (n ≡ Free i e End)
lone ns s End short h some free last = absurd (omega arith)
lone ns s (Free i e rest) short h some free last = grind (arith, none-unused, same-self)
lone ns s n short h some free last = let here = h.standing.0.kind in absurd (cc)

-- A tree of one free leaf.
pub one_leaf : (n : Numbered) (e : ℕ) → erase n ≡ tree.Free e tree.End → (i : ℕ) × (n ≡ Free i e End)
one_leaf (Free i d End) e h = let same : d ≡ e = ap extent h in (i, ap (λ k. Free i k End) same)
  where
    extent : Members → ℕ
    extent (tree.Free k m) = k
    extent _ = 0
one_leaf n e h = absurd (cc)

module _ (v : Stored) (a : IsAtlas v) where
  -- The members of the tree are those of the numbered one.
  pub members-IsAtlas : (tree_of (nodes v.shelf.slots)).members ≡ erase a.holding.tree
  members-IsAtlas = grind (arith, members_of-Stands, nodes-below)

  pub nonempty-IsAtlas : HasMember a.holding.tree
  nonempty-IsAtlas = grind arith

  pub tree_of-IsAtlas : tree_of
      (nodes v.shelf.slots) ≡ record { axis = a.holding.sequence.axis; members = erase a.holding.tree }
  tree_of-IsAtlas = grind (arith, tree_of-Stands, nodes-below, nonempty-IsAtlas)

  -- The live grants are those of the allocated slots.
  pub live-IsAtlas : (p : Grant → Bool)
      → count_by p (map grant_of (allocated_from 0 (nodes v.shelf.slots))) ≡ count_by p
      (live (sides_of v.size) (tree_of (nodes v.shelf.slots)))
  live-IsAtlas p = grind (arith, tree_of-IsAtlas, live_among, origin-spot, live-Stands)

  -- The free boxes are those of the free slots.
  pub free-IsAtlas : (p : Box → Bool)
      → count_by p (map box_of (free_areas (nodes v.shelf.slots))) ≡ count_by p
      (free_boxes (sides_of v.size) (tree_of (nodes v.shelf.slots)))
  free-IsAtlas p = grind (arith, tree_of-IsAtlas, free_among, origin-spot, free-Stands)

  pub used-IsAtlas : v.used ≡ tree.node_count (tree_of (nodes v.shelf.slots)).members
  used-IsAtlas = a.used ∙ numbers-erase a.holding.tree ∙ ap tree.node_count (sym members-IsAtlas)

  -- The first slot of the top sequence is a used one.
  pub first-IsAtlas : v.first.number < length v.shelf.slots
  first-IsAtlas = grind (arith, nonempty-IsAtlas, used-inside, length-map)

  -- An atlas whose first slot is free and has nothing after it has nothing live.
  pub idle-none_live : (node_at (nodes v.shelf.slots) v.first.number).kind ≡ kind.Free
      → (node_at (nodes v.shelf.slots) v.first.number).next.number ≡ no_slot
      → live (sides_of v.size) (tree_of (nodes v.shelf.slots)) ≡ []
  idle-none_live free last = grind (arith, lone, nodes-below, nonempty-IsAtlas, tree_of-IsAtlas)

  -- An atlas with nothing live is one free leaf.
  pub none_live-idle : live (sides_of v.size) (tree_of (nodes v.shelf.slots)) ≡ []
      → ((node_at (nodes v.shelf.slots) v.first.number).kind ≡ kind.Free)
      × ((node_at (nodes v.shelf.slots) v.first.number).next.number ≡ no_slot)
  none_live-idle none =
      let ns = nodes v.shelf.slots in
      let t = tree_of ns in
      let free : IsOneFree (sides_of v.size) t = (nothing_live (sides_of v.size) t a.sound.well_formed a.sound.normal none).0 in
      let one = one_leaf a.holding.tree (side t.axis (sides_of v.size)) (sym members-IsAtlas ∙ free) in
      let at : Stands ns a.holding.sequence (Free one.0 (side t.axis (sides_of v.size)) End) =
      subst (Stands ns a.holding.sequence) one.1 a.holds.stands in
      let first : v.first.number ≡ one.0 = a.first ∙ ap first_slot one.1 in (
        subst (λ k. (node_at ns k).kind ≡ kind.Free) (sym first) at.standing.0.kind,
        subst (λ k. (node_at ns k).next.number ≡ no_slot) (sym first) at.standing.0.next,
      )

  -- Both, of a copy of the first slot.
  pub idle-read : (n : Node) → n ≡ node_at (nodes v.shelf.slots) v.first.number → n.kind ≡ kind.Free
      → n.next.number ≡ no_slot
      → live (sides_of v.size) (tree_of (nodes v.shelf.slots)) ≡ []
  idle-read n e free last = idle-none_live (ap (λ (k : Node). k.kind) (sym e) ∙ free) (ap (λ (k : Node). k.next.number) (sym e) ∙ last)

  pub none_live-read : (n : Node) → n ≡ node_at (nodes v.shelf.slots) v.first.number
      → live (sides_of v.size) (tree_of (nodes v.shelf.slots)) ≡ []
      → (n.kind ≡ kind.Free) × (n.next.number ≡ no_slot)
  none_live-read n e none = grind (arith, none_live-idle)
