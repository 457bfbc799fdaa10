pub mod Chains
pub mod Records
pub mod Spread
pub mod Bucketed
