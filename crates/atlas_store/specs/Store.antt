-- The store: slots with their lists.
pub mod Holdings
pub mod Starts
pub mod Freeing
pub mod Choosing
pub mod StoreCalls
pub mod TopCalls
pub mod Restoring
