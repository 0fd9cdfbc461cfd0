pub mod Decided
pub mod Numbers
pub mod Pairs
pub mod Same
pub mod Places
