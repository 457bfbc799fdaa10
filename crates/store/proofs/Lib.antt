pub mod Ends
pub mod Places
pub mod Searches
pub mod Shifts
pub mod Writes
pub mod Ordered
