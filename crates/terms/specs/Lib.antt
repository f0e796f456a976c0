pub mod Levels
pub mod Places
pub mod Refusals
