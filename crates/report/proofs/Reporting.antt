-- What the runner prints for a file that is cut and for one that is not, and that a run that is done has at most 64 fields.
use Prim.Native.Nat.{ℕ, ◌≤◌}
use mathlib.Core.Path.{◌≡◌}
use mathlib.Core.Bool.{true, false}
use mathlib.Core.List.{List}
use lib.ListN.{length}
use Rattle.basis.specs.Numbers as numbers
use Rattle.basis.specs.Answer.{refusal}
use Rattle.basis.proofs.Checks.{past_checks}
use Rattle.sections.specs.Sections.{fields_of}
use Rattle.beltuqash.specs.Calls.{run_checks, run_from, run}
use Rattle.beltuqash.proofs.Checking.{run_numbered, run_holds, fields-long}
use Rattle.report.specs.File.{mode_in, fuel_in, sheet_in, store_in, is_cut}
use Rattle.report.specs.Text.{refused_text}
use Rattle.report.specs.Report.{lent, outcome_of, run_text, report_of}

module _ (file : List ℕ) where
  pub report_cut : is_cut file ≡ true → report_of file ≡ refused_text (refusal numbers.sheet_length 0)
  unfolding report_of
  report_cut e = rw e

  pub report_run : is_cut file ≡ false → report_of file ≡ run_text file
  unfolding report_of
  report_run e = rw e

  -- the run of the file's parts is the file's
  pub ran_is : {sheet store : List ℕ} {mode fuel : ℕ} → sheet ≡ sheet_in file → store ≡ store_in file → mode ≡ mode_in file → fuel ≡ fuel_in file
      → run sheet store mode fuel lent ≡ outcome_of file
  unfolding outcome_of
  ran_is sheet_is store_is mode_is fuel_is = rw (sheet_is, store_is, mode_is, fuel_is)

  -- number 0 means that the sheet passed
  pub done-fields : (outcome_of file).answer.number ≡ numbers.done → length (fields_of (sheet_in file)) ≤ 512
  unfolding outcome_of run
  done-fields e =
      let sheet = sheet_in file in
      let store = store_in file in
      let mode = mode_in file in
      let fuel = fuel_in file in
      let checks = run_checks sheet store mode fuel (length lent) in
      let hold = (past_checks checks lent (run_from sheet store mode fuel lent) (run_numbered sheet store mode fuel (length lent)) e).0 in
      fields-long sheet (run_holds sheet store mode fuel (length lent) hold).taken.loaded
