-- What the functions of a run work on and answer. No public contract cites it.
pub mod Inside
