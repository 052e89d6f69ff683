-- For other crates: `Laws.laws` (rows that pass give all laws of a lattice), `Bounds` (joins, meets, the lowest and the highest level, each the only
-- one), `Joins` (joining in any lattice), `Facts` (what `right` says, both ways), and `Order`, in whose words they speak.
pub mod Bounds
pub mod Facts
pub mod Joins
pub mod Laws
pub mod Order
mod Climbing
mod Judging
mod Rows
mod Sets
