pub mod Project
pub mod Refusals
pub mod Held
