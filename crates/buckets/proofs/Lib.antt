pub mod Leading
pub mod Linking
pub mod Fields
pub mod Spreads
pub mod Wipes
pub mod Ends
pub mod Tables
pub mod Answers
