pub mod Occurrences
pub mod SearchLemmas
pub mod HeapLemmas
pub mod CutTiles
