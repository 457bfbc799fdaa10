pub mod Counts
pub mod Field
pub mod Making
pub mod CountsLaws
pub mod FieldLaws
