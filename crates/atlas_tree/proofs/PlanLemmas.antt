-- Lemmas of plans, of placings and of growths.
pub mod LastMembers
pub mod ChosenSlots
pub mod GrownSlots
pub mod GrownStages
pub mod GrownTrees
pub mod DonePlans
pub mod PlannedSlots
pub mod PlannedTrees
pub mod SlotPlans
pub mod PlanLines
