pub mod Blocks
pub mod Devices
pub mod Grammar
pub mod Lines
pub mod Words
