-- What only contracts and proofs inside the product cite.
pub mod Putting
pub mod Given
