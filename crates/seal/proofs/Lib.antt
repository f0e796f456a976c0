pub mod Orders
pub mod Readings
pub mod Seals
pub mod Written
