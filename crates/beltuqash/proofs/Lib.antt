-- What the proofs of the calls need: the lists of checks (`Checking`) and a run once they have passed (`Running`); and that the contracts leave one answer.
pub mod Checking
pub mod Running
pub mod Unique
