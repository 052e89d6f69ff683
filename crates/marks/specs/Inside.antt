-- What only contracts and proofs inside the product cite.
pub mod Words
pub mod Meanings
