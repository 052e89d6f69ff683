-- The fields' names.
pub mod Names
