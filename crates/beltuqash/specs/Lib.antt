-- What each call does. `Inside` serves functions only.
pub mod Calls
pub mod Inside
