pub mod Lines
pub mod Memories
