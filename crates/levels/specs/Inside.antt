-- What only contracts inside the product cite.
pub mod Climbing
pub mod Judging
