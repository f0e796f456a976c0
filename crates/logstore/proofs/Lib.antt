pub mod Indexes
pub mod Nexts
pub mod Stores
pub mod Forms
pub mod Slots
pub mod Walks
