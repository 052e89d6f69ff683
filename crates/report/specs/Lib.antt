-- What the runner program reads and prints: `File` has the parts of what it reads, `Text` the text of what comes back, `Report` all that it prints
-- for a file. `Inside` serves functions only.
pub mod File
pub mod Text
pub mod Report
pub mod Inside
