mod Bytes
mod Lays
mod Blocks
mod Schedules
pub mod Shapes
pub mod Pads
