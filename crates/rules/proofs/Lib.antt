-- What follows from the rules alone: units and each command's law (`Units`), where runs stop (`Stops`), more fuel and strict inside permissive (`Within`),
-- two runs side by side (`Pairs`), what a run may change (`Moves`), noninterference for any safe marks (`Noninterference`) and for the document's
-- (`SafeMarks`). `Published`, `Pupils` and `Dropped` prove the statements of specs/.
pub mod Units
pub mod Stops
pub mod Within
pub mod Pairs
pub mod Moves
pub mod Noninterference
pub mod SafeMarks
pub mod Published
pub mod Pupils
pub mod Dropped
