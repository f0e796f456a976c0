pub mod Bitwise
pub mod Blocks
pub mod Examples
pub mod Lists
pub mod Pads
pub mod Steps
pub mod Sizes
pub mod Rows
