pub mod Stores
pub mod Nodes
pub mod Offsets
pub mod Spans
pub mod Tables
