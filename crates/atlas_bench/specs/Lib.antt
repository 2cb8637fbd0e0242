pub mod SplitMix
pub mod Checksums
pub mod Glyphs
pub mod Names
pub mod Jobs
pub mod Workloads
pub mod Reports
