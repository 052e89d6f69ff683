-- Definitions that every crate shares: numbers of two bytes, tests of all numbers below another, the table's numbers, what a call answers, and the order
-- of checks.
pub mod Bytes
pub mod Tests
pub mod Numbers
pub mod Answer
pub mod Checks
