pub mod AtlasReaders
pub mod CacheReaders
pub mod Lent
pub mod LiveCounts
pub mod Packings
pub mod PagedReaders
pub mod SimpleReaders
