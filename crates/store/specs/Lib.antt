-- The store: marks, fields as cells, and a store's bytes. Nothing outside this crate knows how an entry lies in them.
pub mod Marks
pub mod Cells
pub mod Stores
