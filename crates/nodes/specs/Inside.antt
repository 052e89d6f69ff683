-- What only contracts and proofs inside the product cite.
pub mod Formed
pub mod Counting
