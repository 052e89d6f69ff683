-- What other crates may cite: what division means, how large a result is, that `eq_z` is equality, and that bytes and values make each other.
pub mod Dividing
pub mod Sizes
pub mod Comparing
pub mod Bytes
