pub mod Keccak
pub mod Laws
pub mod Rules
pub mod Sponge
pub mod Sized
pub mod Rows
