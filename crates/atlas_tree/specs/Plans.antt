-- Plans: how a request is placed, the slot that is chosen for it, and how an atlas grows.
pub mod Planning
pub mod Chosen
pub mod Growths
