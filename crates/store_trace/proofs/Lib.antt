pub mod Drained
pub mod Agreed
