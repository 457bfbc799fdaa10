pub mod Words
pub mod Numbers
pub mod Ranks
pub mod Hash
