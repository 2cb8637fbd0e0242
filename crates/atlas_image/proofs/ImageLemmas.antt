-- Lemmas of nodes that agree with their neighbours.
pub mod Spans
pub mod GrownTrees
pub mod GrownOnce
pub mod Reached
pub mod Joints
pub mod UnusedLines
pub mod AlignedGrants
pub mod OneFirst
pub mod PlacedMembers
pub mod Accepted
pub mod Ranking
pub mod Walking
pub mod Noted
pub mod Covered
pub mod OrderFitted
pub mod AcceptedTrees
