-- Words that answer, marks that are levels by their numbers, and what the questions' answers come to where marks are levels.
pub mod Results
pub mod Marking
pub mod LevelMarks
