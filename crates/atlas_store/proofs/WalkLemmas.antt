-- Lemmas of walks through slots, of ids and of areas.
pub mod AlongLists
pub mod AreaSums
pub mod FreedAtlas
pub mod HiddenSlots
pub mod NamedSlots
pub mod StoredAtlas
pub mod ShownAtlas
pub mod RehearsedAtlas
pub mod WalkSteps
