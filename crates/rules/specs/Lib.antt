-- What a run does, over trees: how it goes on and ends, the rules for any marks, and the marks of document 01. Then what is said of the rules: when two
-- stores agree for a reader, the published rules, and which wrong monitors demand 3 rules out and which cannot be told apart.
pub mod Ends
pub mod Rules
pub mod LevelMarks
pub mod Agreement
pub mod Published
pub mod Pupils
pub mod Dropped
