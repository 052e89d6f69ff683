-- What only contracts and proofs inside the product cite.
pub mod Reader
pub mod Whole
