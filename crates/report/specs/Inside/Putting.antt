-- A text put into a buffer: what each function of `report` says of the buffer it is lent.
use Rattle.std.specs.Prelude.{ℕ, ◌+◌, ◌≤◌, ◌≡◌, List, length}
use Rattle.std.proofs.lemmas.List.Edits.{sets}

-- there is room for the text from offset `at` on
abbrev pub Room : List ℕ → ℕ → List ℕ → Type 0
Room out at text = at + length text ≤ length out

-- the buffer was `before` and is `after`: if there is room, the text stands in it from offset `at` on, all else is as it was, and `end` is the offset
-- after the text
pub record Put (before after : List ℕ) (at : ℕ) (text : List ℕ) (end : ℕ) : Type 0 where
  pub long : length after ≡ length before
  pub bytes : Room before at text → after ≡ sets before at text
  pub end_is : Room before at text → end ≡ at + length text
