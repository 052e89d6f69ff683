-- The trees that nodes make, how deep they are, and load, which is all of it. `Inside` serves functions only.
pub mod Trees
pub mod Depth
pub mod Load
pub mod Inside
