pub mod Images
pub mod Room
