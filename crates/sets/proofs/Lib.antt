pub mod Worded
pub mod Numbers
pub mod Hashes
pub mod Taken
