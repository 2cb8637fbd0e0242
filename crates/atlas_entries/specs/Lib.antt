pub mod Entries
pub mod Limits
pub mod Orders
pub mod Rings
pub mod Tables
