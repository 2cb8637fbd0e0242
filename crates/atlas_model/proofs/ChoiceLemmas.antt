-- Lemmas of rounding and of the choice of a free box.
pub mod PickExistence
pub mod RoundedSides
pub mod WorkedPicks
