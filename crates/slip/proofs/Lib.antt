pub mod Accepted
pub mod Checks
pub mod Exactly
pub mod Reading
pub mod Truth
pub mod Writes
pub mod Written
