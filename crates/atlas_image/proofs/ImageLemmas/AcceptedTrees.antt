-- Nodes that stand for a tree pass the checks.
use Rattle.std.proofs.Common.{ℕ, ◌<◌, List, refl, sym, subst, length, ◌∙◌}
use Rattle.atlas_image.specs.declared.order.Order.{Order}
use Rattle.atlas_image.specs.Imaged.{AreMembers, IsTreeOfNodes}
use Rattle.atlas_image.specs.Members.{IsFirstOf}
use Rattle.atlas_image.specs.Ranks.{IsOrderOfNodes}
use Rattle.atlas_image.proofs.ImageLemmas.Accepted.{OrderFits, members-accepted, tree-begins, tree-placed}
use Rattle.atlas_image.proofs.ImageLemmas.OrderFitted.{led-on, order-fits}
use Rattle.atlas_model.specs.declared.geometry.Size.{Size}
use Rattle.atlas_model.specs.declared.options.AllocatorOptions.{AllocatorOptions}
use Rattle.atlas_model.specs.Boxes.{IsPositive, other, side}
use Rattle.atlas_model.specs.Pixels.{sides_of}
use Rattle.atlas_search.specs.Numbers.{no_slot}
use Rattle.atlas_store.specs.declared.slots.Node.{Node}
use Rattle.atlas_store.specs.Slots.{node_at}
use Rattle.atlas_store.specs.Slots.Growing.{top_along}
use Rattle.atlas_store.specs.Slots.Numbered.{Numbered}
use Rattle.atlas_store.proofs.SlotLemmas.JoinWrites.{none-unused}

module _ {A : Type 0} (ns : List Node) (o : Order A) (size : Size) (options : AllocatorOptions) (begin : ℕ) (n : Numbered)
    (t : IsTreeOfNodes ns (sides_of size) options begin n) (order : IsOrderOfNodes ns o) (positive : IsPositive (sides_of size))
    (short : length ns < no_slot) where
  fits : OrderFits ns o begin
  fits =
      subst (OrderFits ns o) t.first
      (order-fits ns o (top_along t.axis (side (other t.axis) (sides_of size))) n t.stands refl (none-unused ns short) order
      (tree-begins ns o size options begin n t positive short) short
      (λ i u. led-on ns size begin i (tree-placed ns o size options begin n t positive short i u)))

  -- The first member that is found is that of the tree.
  pub first-accepted : IsFirstOf (node_at ns o.top.number) no_slot
  first-accepted = subst (λ v. IsFirstOf (node_at ns v) no_slot) (t.first ∙ sym fits.top)
      (tree-begins ns o size options begin n t positive short)

  pub tree-accepted : AreMembers ns o size options
  tree-accepted = members-accepted ns o size options begin n t positive short fits
