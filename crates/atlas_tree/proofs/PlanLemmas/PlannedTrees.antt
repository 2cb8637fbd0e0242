-- What a plan carried out in a store makes of the tree that is read from it.
use Rattle.std.proofs.Common.{ℕ, ◌+◌, ◌<◌, ◌≡◌, ◌∙◌, sym, ap, arith}
use Rattle.std.proofs.lemmas.List.{length-map}
use Rattle.atlas_store.specs.declared.slots.placing.Plan.{Plan}
use Rattle.atlas_store.specs.declared.slots.NodeKind.TheVariants as kind
use Rattle.atlas_model.specs.Boxes.{Sides, other, side, box_sides, Fits, IsPositive}
use Rattle.atlas_model.specs.Pixels.{box_of}
use Rattle.atlas_model.specs.Trees.{IsWellFormed}
use Rattle.atlas_model.specs.Changes.{place, place_need}
use Rattle.atlas_store.specs.Slots.{nodes, use_count}
use Rattle.atlas_store.specs.Slots.Numbered.{numbers, id_of}
use Rattle.atlas_store.specs.Slots.Reading.{tree_of}
use Rattle.atlas_store.specs.Stored.{Shelf, Holding, Holds}
use Rattle.atlas_store.specs.Store.Holdings.{node_in}
use Rattle.atlas_store.specs.Slots.Placing.{slots_of}
use Rattle.atlas_tree.specs.Plans.Planning.{IsPlanFor, IsPlanned}
use Rattle.atlas_store.proofs.SlotLemmas.ReadTrees.{nonempty-tally, tree_of-Stands}
use Rattle.atlas_store.proofs.SlotLemmas.SlotAims.{IsChoice, tree_in}
use Rattle.atlas_tree.proofs.PlanLemmas.SlotPlans.{planned-placed, planned-need, planned-numbers}

-- Some slot is used, so that the tree that is read has an axis.
read_tree : (v : Shelf) (h : Holding) (i : ℕ) → Holds v h → 0 < use_count (node_in v i).kind
    → tree_of (nodes v.slots) ≡ tree_in h.sequence h.tree
read_tree v h i holds l = grind (arith, nonempty-tally, length-map, tree_of-Stands)

-- A free slot of a store that holds a well-formed tree of an atlas, and a request that fits its box.
pub record IsPlacing (size : Sides) (v : Shelf) (h : Holding) (at : ℕ) (r : Sides) : Type 0 where
  pub holds : Holds v h
  pub start : h.sequence.start ≡ 0
  pub across : h.sequence.width ≡ side (other h.sequence.axis) size
  pub well : IsWellFormed size (tree_of (nodes v.slots))
  pub free : (node_in v at).kind ≡ kind.Free
  pub positive : IsPositive r
  pub fits : Fits r (box_sides (box_of (node_in v at).area))

module _ (size : Sides) (v : Shelf) (h : Holding) (at : ℕ) (r : Sides) (placing : IsPlacing size v h at r) where
  is_read : tree_of (nodes v.slots) ≡ tree_in h.sequence h.tree
  is_read = read_tree v h at placing.holds (rw placing.free (omega arith))

  pub choice : IsChoice size (nodes v.slots) h.sequence h.tree at
  choice = grind (arith, is_read)

  -- The tree that is read afterwards is the model's placing.
  pub planned-tree : (new : Shelf) (to : ℕ) (p : Plan) (h' : Holding) → IsPlanFor (node_in v at) r p
      → IsPlanned new at to p h h' → tree_of (nodes new.slots) ≡ place size (box_of (node_in v at).area) r
      (id_of to (node_in new to).generation) (tree_of (nodes v.slots))
  planned-tree new to p h' for planned =
      let g = (node_in new to).generation in
      read_tree new h' to planned.holds (rw planned.granted (omega arith))
      ∙ ap (λ s. tree_in s h'.tree) planned.sequence
      ∙ ap (tree_in h.sequence) planned.tree
      ∙ planned-placed size (nodes v.slots) h.sequence h.tree at r choice (placing.positive, placing.fits) p for
      planned.parts g
      ∙ ap (λ k. place size (box_of (node_in v at).area) r (id_of k g) (tree_in h.sequence h.tree)) (sym planned.is)
      ∙ ap (place size (box_of (node_in v at).area) r (id_of to g)) (sym is_read)

  -- It has as many members more as the model needs.
  pub planned-used : (new : Shelf) (to : ℕ) (p : Plan) (h' : Holding) → IsPlanFor (node_in v at) r p
      → IsPlanned new at to p h h' → numbers h'.tree ≡ numbers h.tree + slots_of p
  planned-used new to p h' for planned =
      ap numbers planned.tree
      ∙ planned-numbers size (nodes v.slots) h.sequence h.tree at r choice (placing.positive, placing.fits) p for
      planned.parts (node_in new to).generation

  pub need-read : (p : Plan) → IsPlanFor (node_in v at) r p
      → place_need size (box_of (node_in v at).area) r (tree_of (nodes v.slots)) ≡ slots_of p
  need-read p for = grind (arith, is_read, planned-need, choice)
