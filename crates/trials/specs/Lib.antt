pub mod Kept
pub mod Sized
