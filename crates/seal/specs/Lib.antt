pub mod Forms
pub mod Later
pub mod Laws
pub mod Seal
