-- Lemmas of the steps of a simple allocator.
pub mod SimpleGrants
pub mod SimpleSteps
pub mod SimpleRuns
