-- The sheet's sections, and what load answers. `Inside` serves functions only.
pub mod Verdict
pub mod Sections
pub mod Inside
