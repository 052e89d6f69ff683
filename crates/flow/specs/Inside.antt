-- What only contracts and proofs inside the product cite.
pub mod Tasks
