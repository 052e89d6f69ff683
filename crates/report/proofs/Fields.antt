-- The parts of a field's line, from what the code reads; and how long a line can be.
use Prim.Native.Nat.{ℕ, ◌≤◌, ◌<◌}
use native.Mathlib.Omega.{arith}
use mathlib.Core.Path.{◌≡◌, sym}
use mathlib.Core.Bool.{true, false, true≢false}
use mathlib.Core.List.{List, [], ◌∷◌, ◌++◌}
use borrow.Author.Tests.{eq-eqb, ne_eqb}
use lib.Dec.{eqb}
use lib.ListN.{length, length-append}
use Rattle.basis.proofs.Tests.{split}
use Rattle.names.specs.Names.{name_byte}
use Rattle.store.specs.Marks.{Mark, whole, partial, level_of, is_partial, mark_of}
use Rattle.store.specs.Stores.{mark_at, value_of, cell_at}
use Rattle.store.proofs.Marks.{level-most}
use Rattle.report.specs.Text.{blank, whole_word, partial_word, part, signed, without_zero, name_of, mark_word, mark_text, cell_text, field_line}
use Rattle.report.proofs.Putting.{each-length}
use Rattle.report.proofs.Digits.{part_length, signed-length}

pub zero_none : (b : ℕ) → b ≡ 0 → without_zero b ≡ []
unfolding without_zero
zero_none b h = rw (eq-eqb b 0 h)

pub other_one : (b : ℕ) → (b ≡ 0 → ⊥) → without_zero b ≡ b ∷ []
unfolding without_zero
other_one b h = rw (ne_eqb b 0 h)

-- a mark's text, from its level and whether it is partial
pub whole_text : (m : Mark) {level : ℕ} → level ≡ level_of m → is_partial m ≡ false → part level ++ (blank ++ whole_word) ≡ mark_text m
unfolding mark_text
whole_text (whole a) e h = rw e
whole_text (partial a) e h = absurd (true≢false h)

pub partial_text : (m : Mark) {level : ℕ} → level ≡ level_of m → is_partial m ≡ true → part level ++ (blank ++ partial_word) ≡ mark_text m
unfolding mark_text
partial_text (whole a) e h = absurd (true≢false (sym h))
partial_text (partial a) e h = rw e

-- ── how long they are ───────────────────────────────────────────────────────────────────────

byte_length : (b : ℕ) → length (without_zero b) ≤ 1
unfolding without_zero
byte_length b = split (eqb b 0) (λ e. rw e (omega arith)) (λ e. rw e (omega arith))

name_length : (fields : List ℕ) (i : ℕ) → length (name_of fields i) ≤ 8
unfolding name_of
name_length fields i = each-length 8 1 (λ k. without_zero (name_byte fields i k)) (λ k. byte_length (name_byte fields i k))

word_length : (m : Mark) → length (mark_word m) ≤ 7
word_length (whole a) = omega arith
word_length (partial a) = omega arith

-- 8 bytes of name, 3 of level, 7 of `partial`, 11 of value, three blanks and the line's end
pub line_length : (fields store : List ℕ) (i : ℕ) → mark_at store i < 256 → length (field_line fields store i) ≤ 33
unfolding field_line cell_text cell_at mark_text
line_length fields store i byte =
    let mark = mark_of (mark_at store i) in
    let level = part_length 2 (level_of mark) (omega (arith, level-most (mark_at store i))) in
    let value : length (signed (value_of store i).n) ≤ 11 = signed-length _ in
    simp length-append (omega (arith, name_length fields i, level, word_length mark, value))
