-- What a sheet has whose sections pass.
use Rattle.std.specs.Prelude.{ℕ, ◌≤◌, List, length, drop}
use Rattle.sections.specs.Sections.{count_of, section_end, fields_at, constants_at, nodes_at, end_at}

-- a whole section of `least` to `most` entries stands at the front of the rest
pub record Section (size least most : ℕ) (rest : List ℕ) : Type 0 where
  pub counted : 2 ≤ length rest
  pub some : least ≤ count_of rest
  pub few : count_of rest ≤ most
  pub whole : section_end size rest ≤ length rest

pub record Sections (sheet : List ℕ) : Type 0 where
  pub levels : Section 2 1 16 (drop 0 sheet)
  pub fields : Section 8 1 64 (drop (fields_at sheet) sheet)
  pub constants : Section 4 0 256 (drop (constants_at sheet) sheet)
  pub nodes : Section 8 1 1024 (drop (nodes_at sheet) sheet)
  pub no_rest : length (drop (end_at sheet) sheet) ≤ 0
