-- Document 01, "Trials": all that the runner program prints for a file.
use Rattle.std.specs.Prelude.{ℕ, ◌≤◌, ◌≡◌, cond, List, length, take, replicate}
use Rattle.basis.specs.Numbers as numbers
use Rattle.basis.specs.Answer.{refusal, Outcome}
use Rattle.sections.specs.Sections.{fields_of}
use Rattle.store.specs.Stores.{store_length}
use Rattle.beltuqash.specs.Calls.{run}
use Rattle.report.specs.File.{mode_in, fuel_in, sheet_in, store_in, is_cut}
use Rattle.report.specs.Text.{refused_text, printed}

-- The output lent has room for the longest store, that of 64 fields, so number 11 never comes.
abbrev pub lent : List ℕ
lent = replicate (store_length 64) 0

-- The run that the file asks for.
unfoldable pub outcome_of : List ℕ → Outcome
outcome_of file = run (sheet_in file) (store_in file) (mode_in file) (fuel_in file) lent

-- It prints `done` and units, or `refused`, number, place and units; then after `done` a line per field.
unfoldable pub run_text : List ℕ → List ℕ
run_text file = printed (outcome_of file).answer (fields_of (sheet_in file)) (outcome_of file).out

-- A file cut before the store's length is complete prints `refused 1 0 0`, ahead of every other check.
unfoldable pub report_of : List ℕ → List ℕ
report_of file = cond (is_cut file) (refused_text (refusal numbers.sheet_length 0)) (run_text file)

-- No text is longer: a first line of 16 bytes and 33 for each of 64 fields.
abbrev pub longest : ℕ
longest = 2128

-- The first `end` bytes of a buffer are the text. `counted` follows from `within`, and spares a caller's `&out[..end]` a proof file, as in io's `IsPrefixLen`.
pub record Begins (out text : List ℕ) (end : ℕ) : Type 0 where
  pub within : end ≤ length out
  pub counted : end ≡ length (take end out)
  pub bytes : take end out ≡ text
