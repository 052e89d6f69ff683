-- What the contracts of `value` say, in document 01's words:
-- `Values` has the operators, and `Bytes` how a value stands in a sheet and in a store.
pub mod Values
pub mod Bytes
