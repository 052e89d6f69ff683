-- What only contracts and proofs inside the product cite.
pub mod Depth
pub mod Loaded
