-- Theorems about the whole, over the definitions that the exported calls cite: demand 1 (`Outcomes`, and `Earned` for its numbers), demand 3 (`Secrecy`), the
-- published rules (`Published`), what demand 2 shuts out (`ShutOut`), and document 01's table of proved trials (`Trials`, `Sealed`).
pub mod Outcomes
pub mod Secrecy
pub mod Published
pub mod Flag
pub mod Earned
pub mod ShutOut
pub mod Trials
pub mod Sealed
