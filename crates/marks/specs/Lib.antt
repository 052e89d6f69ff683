-- What marks' numbers and the words of a run mean. No public contract cites it.
pub mod Inside
