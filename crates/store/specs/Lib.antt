pub mod Answers
pub mod Stores
pub mod Slots
pub mod Keys
pub mod Terms
pub mod Tables
pub mod Rowed
pub mod Batches
