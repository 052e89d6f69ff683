-- `Outcomes`, `Secrecy` and `Published` prove the statements of specs/. Below them: every reader (`Readers`), and the way between trees and bytes (`Written`,
-- `Finished`, `Halted`, `Starting`, `Answered`).
mod Readers
mod Written
mod Finished
mod Starting
mod Answered
pub mod Outcomes
mod Halted
pub mod Secrecy
pub mod Published
