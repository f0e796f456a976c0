pub mod Index
pub mod Laws
pub mod Records
pub mod Views
pub mod Sized
