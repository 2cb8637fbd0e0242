-- Lemmas of lists.
pub mod ListCounts
pub mod CountSums
pub mod Sums
pub mod CallerLemmas
