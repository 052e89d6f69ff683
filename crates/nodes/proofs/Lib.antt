-- The kinds' slots, nodes judged, uses counted, nodes taken.
pub mod Slots
pub mod Judged
pub mod Counted
pub mod Taken
