-- Lemmas of trees of cuts.
pub mod RenamedTrees
pub mod BoxLists
pub mod TreeBasics
pub mod TreeIds
pub mod TreeNormal
pub mod TreeReleases
pub mod TreeTiles
pub mod TreeLive
pub mod TreeUndone
pub mod TreeIdle
pub mod TreePuts
pub mod TreePlacements
pub mod TreeKept
pub mod TreeGrowth
pub mod TreeRoom
pub mod TreeInside
pub mod TreeCounts
