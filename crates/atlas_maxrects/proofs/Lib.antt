pub mod BestCorners
pub mod LeftOvers
pub mod TopmostPlaces
