pub mod Overwrites
pub mod Replies
