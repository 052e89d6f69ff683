-- Document 01, "Hand-out": requests, and the answers that they get. `Inside` serves functions only.
pub mod Requests
pub mod Answers
pub mod Inside
