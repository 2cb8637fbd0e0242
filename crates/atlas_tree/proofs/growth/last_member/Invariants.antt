use Rattle.std.proofs.Common.{length}
use Rattle.atlas_model.specs.Boxes.{Sides}
use Rattle.atlas_store.specs.Slots.{nodes}
use Rattle.atlas_store.specs.Stored.{Holding}
use Rattle.atlas_store.specs.Store.Holdings.{shelf_of}
use Rattle.atlas_tree.specs.Plans.Growths.{IsTreeOf}
use Rattle.atlas_store.proofs.SlotLemmas.Followers.{followers}
use Rattle.atlas_tree.proofs.PlanLemmas.LastMembers.{IsAtMember}
use Rattle.atlas_tree.proofs.growth.last_member.Given as goal

abbrev pub invariant-loop-next : goal.invariant-loop-next
invariant-loop-next g l =
    (h : Holding) (size : Sides) → IsTreeOf (shelf_of l.fn.store) size l.fn.first.number h →
    IsAtMember (nodes l.store.slots.items) l.at.number l.next.number h.sequence h.tree

abbrev pub decreases-loop-next : goal.decreases-loop-next
decreases-loop-next g l =
    let ns = nodes l.store.slots.items in
    followers (length ns) ns l.next.number
