-- Document 01's trial of the runner program, from the file's bytes to the text.
use Prim.Native.Nat.{ℕ}
use mathlib.Core.Path.{◌≡◌, refl}
use mathlib.Core.List.{List, [], ◌∷◌, ◌++◌}
use Rattle.basis.specs.Tests.{all}
use Rattle.value.specs.Values.{operating}
use Rattle.value.specs.Bytes.{of_bits, bits_of, bytes_of}
use Rattle.beltuqash.specs.Calls.{calling}
use Rattle.report.specs.File.{sheet_in, store_in, is_cut}
use Rattle.report.specs.Text.{done_word, whole_word, each, digits_within, decimal, part, signed, without_zero, name_of}
use Rattle.report.specs.Text.{mark_text, cell_text, field_line, done_text, printed}
use Rattle.report.specs.Report.{outcome_of, run_text, report_of}

-- Mode 1, fuel 9, sheet `02 00 03 00 02 00 01 00 71 ..`, store `01 00 01 29 00 00 00`
abbrev sheet : List ℕ
sheet =
    (2 ∷ 0 ∷ 3 ∷ 0 ∷ 2 ∷ 0 ∷ [])
    ++ (1 ∷ 0 ∷ 113 ∷ 0 ∷ 0 ∷ 0 ∷ 0 ∷ 0 ∷ 0 ∷ 0 ∷ [])
    ++ (1 ∷ 0 ∷ 1 ∷ 0 ∷ 0 ∷ 0 ∷ [])
    ++ (4 ∷ 0 ∷ [])
    ++ (0 ∷ 0 ∷ 0 ∷ 0 ∷ 0 ∷ 0 ∷ 0 ∷ 0 ∷ [])
    ++ (1 ∷ 0 ∷ 0 ∷ 0 ∷ 0 ∷ 0 ∷ 0 ∷ 0 ∷ [])
    ++ (2 ∷ 0 ∷ 1 ∷ 0 ∷ 0 ∷ 0 ∷ 0 ∷ 0 ∷ [])
    ++ (6 ∷ 0 ∷ 0 ∷ 0 ∷ 2 ∷ 0 ∷ 0 ∷ 0 ∷ [])

abbrev file : List ℕ
file = (1 ∷ 9 ∷ 0 ∷ 0 ∷ 0 ∷ 56 ∷ 0 ∷ []) ++ sheet ++ (7 ∷ 0 ∷ []) ++ (1 ∷ 0 ∷ 1 ∷ 41 ∷ 0 ∷ 0 ∷ 0 ∷ [])

-- prints `done 1` and `q 1 whole 42`
pub trial : report_of file ≡ done_word ++ (32 ∷ 49 ∷ 10 ∷ 113 ∷ 32 ∷ 49 ∷ 32 ∷ []) ++ whole_word ++ (32 ∷ 52 ∷ 50 ∷ 10 ∷ [])
unfolding all operating of_bits bits_of bytes_of calling sheet_in store_in is_cut
    each digits_within decimal part signed without_zero name_of mark_text cell_text field_line done_text printed outcome_of run_text report_of
trial = refl
