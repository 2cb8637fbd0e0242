-- The free boxes of the simple allocator, in the lists of a table.
pub mod FreeLists
pub mod BoxShelves
pub mod BoxCalls
pub mod FreeEntries
