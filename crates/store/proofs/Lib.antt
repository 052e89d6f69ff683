-- Laws of marks and their bytes (`Marks`) and of a store's entries, written and read back (`Entries`).
pub mod Marks
pub mod Entries
