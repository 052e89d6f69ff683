-- Checks in order (`Verdicts`) and the sections' parts (`Cuts`), for other crates too.
pub mod Verdicts
pub mod Cuts
