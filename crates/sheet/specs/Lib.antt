pub mod Held
pub mod Gates
pub mod Kinds
pub mod KindLaws
pub mod Claimed
pub mod Sheets
pub mod Index
pub mod Drafts
