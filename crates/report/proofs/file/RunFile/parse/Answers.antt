-- What is left of the file behind the sheet, and behind the store's length.
use Rattle.std.proofs.Common.{arith, rules, ℕ, ◌+◌, ◌≤◌, ◌≡◌, List, length, take, drop, sym, ◌∙◌}
use Rattle.std.proofs.lemmas.List.{drop-drop}
use Rattle.std.proofs.lemmas.Grind.{common_steps}
use Rattle.std.specs.Int.{w16, from_le_bytes}
use borrow.Author.Tests.{le-ltb, eq-eqb, ne_eqb}
use Rattle.basis.specs.Bytes.{word_at}
use Rattle.report.specs.File.{is_cut, store_in, sheet_end}
use Rattle.report.proofs.file.RunFile.parse.Goals.{then-rest-from, else-rest-from}
use Rattle.report.proofs.file.RunFile.parse.Goals as goal

word_is : (s : List ℕ) (at : ℕ) (bytes : List ℕ) → bytes ≡ take 2 (drop at s) → from_le_bytes w16 bytes ≡ word_at s at
word_is s at bytes e = rw e (grind (arith, common_steps))

pub returns-clause-cut : goal.returns-clause-cut
unfolding is_cut
returns-clause-cut c =
    let file = c.args.file.now in
    let n : c.from.result ≡ word_at file 5 = search rules in
    let whole : sheet_end file + 2 ≤ length file =
    omega (arith, c.in_ok-mode.ensures.cases.2, c.in_ok-sheet.ensures.cases.4, c.in_ok-store_length.ensures.cases.2) in
    rw (le-ltb (length file) (sheet_end file + 2) whole) (search rules)

pub returns-clause-store : goal.returns-clause-store
unfolding store_in
returns-clause-store c =
    let file = c.args.file.now in
    let n : c.from.result ≡ word_at file 5 = search rules in
    let after : c.in_ok-sheet.rest.now ≡ drop (sheet_end file) file =
    cc (n, c.in_ok-mode.ensures.cases.1, c.in_ok-sheet.ensures.cases.2, drop-drop (word_at file 5) 7 file) in
    let rest : c.in_ok-store_length.rest.now ≡ drop (sheet_end file + 2) file =
    cc (after, c.in_ok-store_length.ensures.cases.1, drop-drop 2 (sheet_end file) file) in
    let m : c.from-2.result ≡ word_at file (sheet_end file) =
    cc (word_is file (sheet_end file) c.in_ok-store_length.field-0-0.now (cc (after, c.in_ok-store_length.ensures.cases.0)), c.from-2.ensures, c.from_le_bytes.ensures) in
    elim c.if-rest-from.branch [
      | then-rest-from w ↦ rw (w.store-is, ← rest, eq-eqb _ _ (w.if-rest-from.true ∙ m))
      | else-rest-from w ↦ rw (w.store-is, ← rest, ne_eqb _ _ (λ e. w.if-rest-from.false (e ∙ sym m)))
    ]
