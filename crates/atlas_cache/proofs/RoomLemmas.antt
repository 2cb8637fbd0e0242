-- What the steps make of the pages of a cache.
pub mod AreaOrder
pub mod GrantedRoom
pub mod KeptPages
pub mod KnownPages
pub mod LiveAreas
pub mod PageGrowth
pub mod PageReserves
pub mod PageRoom
pub mod ReadySlots
pub mod RepackedPages
pub mod ShownPages
pub mod StoredPages
