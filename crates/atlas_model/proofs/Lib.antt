pub mod TreeLemmas
pub mod StepLemmas
pub mod ChoiceLemmas
pub mod SimpleLemmas
pub mod ListLemmas
