-- Every number of `Outcomes` is earned, by each call that gives it: an input for each. 13 and 14 are rows of `Trials`. 7, depth over 64, takes a sheet too
-- long to read here, and is earned in the tests.
use Rattle.std.specs.Prelude.{ℕ, ◌≡◌, refl, List, [], ◌∷◌, ◌++◌, map}
use Rattle.value.specs.Values.{operating}
use Rattle.value.specs.Bytes.{of_bits, bits_of, bytes_of}
use Rattle.basis.specs.Numbers as numbers
use Rattle.store.specs.Marks.{whole, partial}
use Rattle.beltuqash.specs.Calls.{load, run, hand_out, calling}
use Rattle.secrecy.specs.Flag.{node, entry, flag_sheet, store_at}

-- one level, the field q, no constant, and these nodes
sheet_of : List ℕ → List ℕ
sheet_of nodes = (1 ∷ 0 ∷ 1 ∷ 0 ∷ []) ++ (1 ∷ 0 ∷ 113 ∷ 0 ∷ 0 ∷ 0 ∷ 0 ∷ 0 ∷ 0 ∷ 0 ∷ []) ++ (0 ∷ 0 ∷ []) ++ nodes

-- the numbers that load tells of a sheet, but for 7, and a sheet for each
pub refused : List ℕ
refused =
    numbers.sheet_length
    ∷ numbers.count_outside
    ∷ numbers.levels_wrong
    ∷ numbers.name_wrong
    ∷ numbers.node_unknown
    ∷ numbers.node_unused
    ∷ numbers.node_range
    ∷ numbers.node_sort
    ∷ numbers.not_used_once
    ∷ []

pub sheets : List (List ℕ)
sheets =
    []  -- no bytes
    ∷ (0 ∷ 0 ∷ [])  -- no levels
    ∷ ((1 ∷ 0 ∷ 0 ∷ 0 ∷ []) ++ (1 ∷ 0 ∷ 113 ∷ 0 ∷ 0 ∷ 0 ∷ 0 ∷ 0 ∷ 0 ∷ 0 ∷ []) ++ (0 ∷ 0 ∷ []) ++ (1 ∷ 0 ∷ []) ++ node 5 0 0 0 0)  -- row 0
    ∷ ((1 ∷ 0 ∷ 1 ∷ 0 ∷ []) ++ (1 ∷ 0 ∷ 48 ∷ 0 ∷ 0 ∷ 0 ∷ 0 ∷ 0 ∷ 0 ∷ 0 ∷ []) ++ (0 ∷ 0 ∷ []) ++ (1 ∷ 0 ∷ []) ++ node 5 0 0 0 0)  -- the name 0
    ∷ sheet_of ((1 ∷ 0 ∷ []) ++ node 10 0 0 0 0)  -- kind 10
    ∷ sheet_of ((1 ∷ 0 ∷ []) ++ node 5 0 1 0 0)  -- skip, and 1 in slot a
    ∷ sheet_of ((2 ∷ 0 ∷ []) ++ node 1 0 1 0 0 ++ node 6 0 0 0 0)  -- field 1
    ∷ sheet_of ((2 ∷ 0 ∷ []) ++ node 5 0 0 0 0 ++ node 6 0 0 0 0)  -- q := skip
    ∷ sheet_of ((2 ∷ 0 ∷ []) ++ node 5 0 0 0 0 ++ node 5 0 0 0 0)  -- a skip that is nobody's child
    ∷ []

pub load_earns : map (λ (sheet : List ℕ). (load sheet).number) (flag_sheet ∷ sheets) ≡ numbers.done ∷ refused
unfolding sheet_of sheets refused flag_sheet calling
load_earns = refl

-- ── run ─────────────────────────────────────────────────────────────────────────────────────

abbrev run_number : List ℕ → List ℕ → ℕ → ℕ → List ℕ → ℕ
run_number sheet store mode fuel out = (run sheet store mode fuel out).answer.number

-- what it tells of a sheet, from no store
pub run_earns_of_sheets : map (λ (sheet : List ℕ). run_number sheet [] 0 1000 []) sheets ≡ refused
unfolding sheet_of sheets refused calling
run_earns_of_sheets = refl

-- and what comes of the flag sheet
pub run_earns :
    run_number flag_sheet (store_at 600) 0 1000 (store_at 0)
    ∷ run_number flag_sheet (store_at 600) 2 1000 (store_at 0)  -- mode 2
    ∷ run_number flag_sheet [] 0 1000 (store_at 0)  -- no store
    ∷ run_number flag_sheet ((3 ∷ 0 ∷ []) ++ entry (partial 0) 0 ++ entry (whole 0) 0 ++ entry (whole 1) 600) 0 1000 (store_at 0)  -- strict, with a partial mark
    ∷ run_number flag_sheet (store_at 600) 0 1000 []  -- no room
    ∷ run_number flag_sheet (store_at 600) 0 0 (store_at 0)  -- no fuel
    ∷ run_number flag_sheet (store_at 400) 0 1000 (store_at 0)
    ∷ run_number flag_sheet (store_at 400) 1 1000 (store_at 0)
    ∷ []
    ≡ numbers.done
    ∷ numbers.mode_or_fuel
    ∷ numbers.store_misfit
    ∷ numbers.mark_wrong
    ∷ numbers.out_short
    ∷ numbers.fuel_spent
    ∷ numbers.not_below
    ∷ numbers.partial_test
    ∷ []
unfolding flag_sheet store_at of_bits bits_of bytes_of operating calling
run_earns = refl

-- ── hand-out ────────────────────────────────────────────────────────────────────────────────

-- the number that a reader at level 0 gets who asks for the flag sheet's q
abbrev reply_number : List ℕ → ℕ → List ℕ → ℕ
reply_number store reader out = (hand_out flag_sheet store reader (1 ∷ 0 ∷ 1 ∷ 0 ∷ []) out).answer.number

pub hand_out_earns_of_sheets : map (λ (sheet : List ℕ). (hand_out sheet [] 0 [] []).answer.number) sheets ≡ refused
unfolding sheet_of sheets refused calling
hand_out_earns_of_sheets = refl

pub hand_out_earns :
    reply_number (store_at 600) 0 (store_at 0)
    ∷ reply_number [] 0 (store_at 0)  -- no store
    ∷ reply_number ((3 ∷ 0 ∷ []) ++ entry (whole 2) 0 ++ entry (whole 0) 0 ++ entry (whole 1) 600) 0 (store_at 0)  -- a mark of level 2
    ∷ reply_number (store_at 600) 2 (store_at 0)  -- a reader at level 2
    ∷ reply_number (store_at 600) 0 []  -- no room
    ∷ reply_number ((3 ∷ 0 ∷ []) ++ entry (whole 0) 0 ++ entry (partial 0) 0 ++ entry (whole 1) 600) 0 (store_at 0)  -- q partial
    ∷ []
    ≡ numbers.done
    ∷ numbers.store_misfit
    ∷ numbers.mark_wrong
    ∷ numbers.reader_or_request
    ∷ numbers.out_short
    ∷ numbers.partial_asked
    ∷ []
unfolding flag_sheet store_at of_bits bits_of bytes_of operating calling
hand_out_earns = refl
