pub mod Told
pub mod Numerals
pub mod Said
pub mod Lines
