-- Laws behind the runner: `Putting` puts texts together, `Digits` has the digits of a number, `Fields` the parts of a field's line, `Printing`
-- what the answer's number decides and how long the text can be, `Trial` document 01's trial, `Reporting` what is printed for a file, and
-- `Longer` that the end of a file that is too long makes no difference.
pub mod Putting
pub mod Digits
pub mod Fields
pub mod Printing
pub mod Trial
pub mod Reporting
pub mod Longer
