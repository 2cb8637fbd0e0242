pub mod Free
pub mod Placing
