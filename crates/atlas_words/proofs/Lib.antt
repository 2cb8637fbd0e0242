pub mod Blocks
pub mod Decimals
pub mod FirstLines
pub mod Keywords
pub mod Known
pub mod Numbers
pub mod PartedWords
