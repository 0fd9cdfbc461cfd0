pub mod Worked
pub mod Runs
