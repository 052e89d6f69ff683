-- A file longer than any that is right: what stands after its first 131,080 bytes makes no difference, so the runner need not read it. No store is
-- as long as what follows the store's length there, and the sheet and all lengths stand before.
use Prim.Native.Nat.{ℕ, ◌+◌, ◌≤◌, ◌<◌}
use native.Mathlib.Omega.{arith}
use mathlib.Core.Path.{◌≡◌, ap, ◌∙◌}
use mathlib.Core.Bool.{false}
use mathlib.Core.List.{List, [], ◌++◌}
use borrow.Author.Tests.{le-ltb, ne_eqb}
use lib.ListN.{length, get_or, take, drop, length-append, length-drop, get_or-append}
use lib.Seq.{take-append-le, drop-append-le}
use Rattle.basis.specs.Bytes.{word_at}
use Rattle.report.specs.File.{mode_in, fuel_in, sheet_in, sheet_end, store_in, is_cut}
use Rattle.report.specs.Report.{outcome_of, run_text, report_of}

-- a store of another length than the file gives counts as none
store-none : (file : List ℕ) → (length (drop (sheet_end file + 2) file) ≡ word_at file (sheet_end file) → ⊥) → store_in file ≡ []
unfolding store_in
store-none file d = rw (ne_eqb _ _ d)

module _ (first more : List ℕ) (long : 131080 ≤ length first) where
  abbrev all : List ℕ
  all = first ++ more

  byte_same : (k : ℕ) → k < 131080 → get_or all k 0 ≡ get_or first k 0
  byte_same k h = get_or-append first more 0 k (omega arith)

  word_same : (k : ℕ) → k + 1 < 131080 → word_at all k ≡ word_at first k
  word_same k h = rw (byte_same k (omega arith), byte_same (k + 1) h)

  end_same : sheet_end all ≡ sheet_end first
  end_same = ap (λ (n : ℕ). 7 + n) (word_same 5 (omega arith))

  mode_same : mode_in all ≡ mode_in first
  mode_same = byte_same 0 (omega arith)

  fuel-same : fuel_in all ≡ fuel_in first
  fuel-same = rw (word_same 1 (omega arith), word_same 3 (omega arith))

  module _ (bytes : (k : ℕ) → get_or first k 0 < 256) where
    -- a length of two bytes
    small : (k : ℕ) → word_at first k < 65536
    small k = omega (arith, bytes k, bytes (k + 1))

    sheet_same : sheet_in all ≡ sheet_in first
    unfolding sheet_in
    sheet_same =
        ap (λ (n : ℕ). take n (drop 7 all)) (word_same 5 (omega arith))
        ∙ ap (take (word_at first 5)) (drop-append-le 7 first more (omega arith))
        ∙ take-append-le (word_at first 5) (drop 7 first) more (omega (arith, small 5, length-drop 7 first))

    -- what follows the store's length is longer than that length
    store_of_all : store_in all ≡ []
    store_of_all =
        store-none all (λ e.
        let rest = length-drop (sheet_end all + 2) all in
        let same = word_same (sheet_end first) (omega (arith, small 5)) in
        let says : length (drop (sheet_end all + 2) all) ≡ word_at first (sheet_end first) = e ∙ ap (word_at all) end_same ∙ same in
        absurd (omega (arith, says, rest, end_same, small 5, small (sheet_end first), length-append first more)))

    store_of_first : store_in first ≡ []
    store_of_first = store-none first (λ e. absurd (omega (arith, e, length-drop (sheet_end first + 2) first, small 5, small (sheet_end first))))

    not_cut : (file : List ℕ) → sheet_end file + 2 ≤ length file → is_cut file ≡ false
    unfolding is_cut
    not_cut file h = le-ltb (length file) (sheet_end file + 2) h

    -- so what is printed for the first bytes is what is printed for all
    pub longer_same : report_of all ≡ report_of first
    unfolding report_of run_text outcome_of
    longer_same =
        rw (
          not_cut all (omega (arith, end_same, small 5, length-append first more)),
          not_cut first (omega (arith, small 5)),
          sheet_same,
          store_of_all,
          store_of_first,
          mode_same,
          fuel-same,
        )
