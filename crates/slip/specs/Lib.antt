pub mod Laws
pub mod Slip
