-- What the functions' proofs share: a work store filled, what expressions give and what commands do.
pub mod Fetching
pub mod Expressions
pub mod Ends
pub mod Assigning
pub mod Testing
pub mod Running
pub mod Numbered
