-- The nodes, and how often each is a child. `Inside` serves functions only.
pub mod Nodes
pub mod Kinds
pub mod Uses
pub mod Inside
