-- What the answer's number decides, and how long the text can be.
use Prim.Native.Nat.{ℕ, ◌/◌, ◌^◌, ◌≤◌, ◌<◌}
use native.Mathlib.Omega.{arith}
use mathlib.Core.Path.{◌≡◌}
use mathlib.Core.List.{List}
use borrow.Author.Tests.{eq-eqb, ne_eqb}
use lib.ListN.{length, get_or, length-append}
use Rattle.basis.specs.Numbers as numbers
use Rattle.basis.specs.declared.answer.Answer.{Answer}
use Rattle.store.specs.Stores.{entry_at}
use Rattle.report.specs.Text.{field_line, done_text, refused_text, printed}
use Rattle.report.specs.Report.{longest}
use Rattle.report.proofs.Putting.{each-length}
use Rattle.report.proofs.Digits.{part_length}
use Rattle.report.proofs.Fields.{line_length}

module _ (a : Answer) (fields store : List ℕ) where
  pub printed-done : a.number ≡ numbers.done → printed a fields store ≡ done_text a.units fields store
  unfolding printed
  printed-done h = rw (eq-eqb a.number 0 h)

  pub printed-refused : (a.number ≡ numbers.done → ⊥) → printed a fields store ≡ refused_text a
  unfolding printed
  printed-refused h = rw (ne_eqb a.number 0 h)

-- the text of a run of at most 64 fields
pub done-length : (units : ℕ) (fields store : List ℕ) → units < 2 ^ 32 → length fields ≤ 512 → ((k : ℕ) → get_or store k 0 < 256)
    → length (done_text units fields store) ≤ longest
unfolding done_text
done-length units fields store fits few bytes =
    let lines = each-length (length fields / 8) 33 (field_line fields store) (λ i. line_length fields store i (bytes (entry_at i))) in
    simp length-append (omega (arith, part_length 9 units (omega arith), lines))

pub refused-length : (a : Answer) → a.number < 2 ^ 8 → a.place < 2 ^ 16 → a.units < 2 ^ 32 → length (refused_text a) ≤ longest
unfolding refused_text
refused-length a few small fits =
    simp length-append (omega (arith, part_length 2 a.number (omega arith), part_length 4 a.place (omega arith), part_length 9 a.units (omega arith)))
