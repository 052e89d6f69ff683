-- What other crates may cite: that no refusal has the number of success, laws of tests over the numbers below n, of what iterators
-- answer, of a count and entries written, and of checks in order.
pub mod Numbering
pub mod Tests
pub mod Iterators
pub mod Filling
pub mod Checks
