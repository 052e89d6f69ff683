-- The section reader: the lent sheet and the reader's offset in it, together.
use Rattle.std.specs.Prelude.{ℕ, List, drop}
use Rattle.std.specs.Borrow.{Bor}
use Rattle.sections.specs.Sections.{offset_after}
use Rattle.sections.specs.declared.reader.SectionReader.{SectionReader}

-- the rest of the sheet from the reader's offset
abbrev pub rest_of : SectionReader → List ℕ
rest_of reader = drop reader.at reader.sheet.now

-- a reader at the start of a sheet
abbrev pub at_start : Bor (List ℕ) → SectionReader
at_start sheet = record { sheet = sheet; at = 0 }

-- Each section is read from where the one before ended: the same sheet, at the offset after the section.
abbrev pub past : SectionReader → ℕ → SectionReader
past reader size = record { sheet = reader.sheet; at = offset_after reader.sheet.now reader.at size }
