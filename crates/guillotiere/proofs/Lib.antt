pub mod SimpleLemmas
pub mod Sessions
pub mod Callers
pub use Rattle.atlas_model.proofs.TreeLemmas
pub use Rattle.atlas_model.proofs.StepLemmas
pub use Rattle.atlas_model.proofs.ChoiceLemmas
pub use Rattle.atlas_model.proofs.ListLemmas
