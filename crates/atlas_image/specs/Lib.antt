pub mod Members
pub mod Ranks
pub mod Unused
pub mod Imaged
