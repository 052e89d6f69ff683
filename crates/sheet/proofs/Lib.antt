-- For other crates: `Loading.loaded` (what a sheet has that passes) and `Trees` (the tree at a node, one law a kind). `Depths` serves the depth search.
pub mod Trees
pub mod Depths
pub mod Loading
