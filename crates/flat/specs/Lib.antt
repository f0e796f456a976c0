pub mod Laws
pub mod Layout
pub mod Views
pub mod Sized
