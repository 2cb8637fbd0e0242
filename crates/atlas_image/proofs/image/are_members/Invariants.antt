use Rattle.std.proofs.Common.{◌<◌, ℕ}
use Rattle.atlas_image.specs.Members.{IsMember, IsNormalAndAligned, IsUsed}
use Rattle.atlas_store.specs.Slots.{node_at}
use Rattle.atlas_image.proofs.image.are_members.Given as goal

abbrev pub invariant-loop-number : goal.invariant-loop-number
invariant-loop-number g l =
    record {
      members : (i : ℕ) → i < l.number → IsUsed (node_at l.nodes i) → IsMember l.nodes l.order l.size i (node_at l.nodes i);
      settled : (i : ℕ) → i < l.number → IsUsed (node_at l.nodes i) → IsNormalAndAligned l.nodes l.options (node_at l.nodes i);
    }
