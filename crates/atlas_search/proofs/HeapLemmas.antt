-- Lemmas of the calls that change heaps.
pub mod Frames
pub mod Places
pub mod Hanging
pub mod Spines
pub mod Turns
pub mod Melding
pub mod Alone
pub mod Joining
pub mod Forking
pub mod Sorting
pub mod Passing
pub mod Sinking
pub mod Leaving
pub mod Pushing
pub mod Removing
