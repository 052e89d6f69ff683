-- `Levels` is what a reader must believe. `Lattice` is the same as operations with laws, for theorems about runs. `Inside` serves functions only.
pub mod Levels
pub mod Lattice
pub mod Inside
