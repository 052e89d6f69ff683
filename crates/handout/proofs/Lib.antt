-- What a right request has, why answers are alike, and what an answer shows.
pub mod Requesting
pub mod Alike
pub mod Answering
