pub mod Hash
pub mod Messages
