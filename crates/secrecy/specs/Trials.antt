-- Document 01's trials that are proved, marked (p) there, and the divisions of document 02, "Two": one table, one theorem. A row is what is
-- asked and what comes back. What is asked of values and of the flag sheet is asked of `run`, and all that comes back is compared: number, place, units and
-- every byte of the output.
use Rattle.std.specs.Prelude.{ℕ, ◌/◌, ◌≡◌, refl, List, [], ◌∷◌, ◌++◌, map, ℤ, pos, neg_ℤ, length}
use Rattle.value.specs.Values.{operating}
use Rattle.value.specs.Bytes.{of_bits, bits_of, bytes_of}
use Rattle.levels.specs.Lattice.{lattice}
use Rattle.rules.specs.Ends.{stop_number, Try, fine, fails}
use Rattle.store.specs.Cells.{cell}
use Rattle.store.specs.declared.Mode.TheVariants.{Permissive}
use Rattle.store.specs.Marks.{Mark, whole, partial}
use Rattle.store.specs.Stores.{entry_of}
use Rattle.rules.specs.LevelMarks.{marking}
use Rattle.basis.specs.Numbers as numbers
use Rattle.basis.specs.declared.answer.Answer.{Answer}
use Rattle.basis.specs.Answer.{answer, success, refusal, Outcome}
use Rattle.beltuqash.specs.Calls.{load, run, calling}
use Rattle.secrecy.specs.Flag.{node, flag_sheet, store_at}

pub data Question : Type 0 where
  -- run of q := x op y, strict, with fuel 1,000
  operator : ℕ → ℤ → ℤ → Question
  -- in the diamond: the mark of an operator on two marks
  join : Mark → Mark → Question
  -- in the diamond, permissive: the mark that an assignment leaves, by context, the field's mark and the value's mark
  assign : ℕ → Mark → Mark → Question
  -- load of a sheet with these rows, two bytes each
  rows : List ℕ → Question
  -- run of the flag sheet, by cost and mode, with fuel 1,000
  flag : ℕ → ℕ → Question

-- what a run comes to, what load tells, a mark, or why there is none
pub data Came : Type 0 where
  runs : Answer → List ℕ → Came
  loads : Answer → Came
  mark : Mark → Came
  none : ℕ → Came

pub record Trial : Type 0 where
  pub asked : Question
  pub came : Came

infix 10 ◌gives◌
abbrev ◌gives◌ : Question → Came → Trial
a gives c = record { asked = a; came = c }

tried : Try Mark → Came
tried (fine m) = mark m
tried (fails why) = none (stop_number why)

-- the diamond's rows, two bytes each
diamond : List ℕ
diamond = 15 ∷ 0 ∷ 10 ∷ 0 ∷ 12 ∷ 0 ∷ 8 ∷ 0 ∷ []

-- the field q
field_q : List ℕ
field_q = 1 ∷ 0 ∷ 113 ∷ 0 ∷ 0 ∷ 0 ∷ 0 ∷ 0 ∷ 0 ∷ 0 ∷ []

-- these rows, two bytes each, the field q, no constant, and the one node skip
sheet_with : List ℕ → List ℕ
sheet_with order = (length order / 2 ∷ 0 ∷ []) ++ order ++ field_q ++ (0 ∷ 0 ∷ []) ++ (1 ∷ 0 ∷ []) ++ node 5 0 0 0 0

-- one level, the field q, the constants x and y, and q := x op y
operator_sheet : ℕ → ℤ → ℤ → List ℕ
operator_sheet op x y =
    (1 ∷ 0 ∷ 1 ∷ 0 ∷ [])
    ++ field_q
    ++ (2 ∷ 0 ∷ [])
    ++ bytes_of x
    ++ bytes_of y
    ++ (4 ∷ 0 ∷ [])
    ++ node 0 0 0 0 0  -- 0: x
    ++ node 0 0 1 0 0  -- 1: y
    ++ node 2 op 0 1 0  -- 2: x op y
    ++ node 6 0 0 2 0  -- 3: q := x op y

-- a store of q, which is whole
q_store : ℤ → List ℕ
q_store z = (1 ∷ 0 ∷ []) ++ entry_of (cell (record { n = z }) (whole 0))

-- the run has q at 0, and is lent a store with q at 77
lent : List ℕ
lent = q_store (pos 77)

ran : Outcome → Came
ran o = runs o.answer o.out

pub answer_to : Question → Came
answer_to (operator op x y) = ran (run (operator_sheet op x y) (q_store (pos 0)) 0 1000 lent)
answer_to (join m k) = mark ((marking (lattice diamond) Permissive).join m k)
answer_to (assign context old m) = tried ((marking (lattice diamond) Permissive).store 0 context old m)
answer_to (rows order) = loads (load (sheet_with order))
answer_to (flag cost mode) = ran (run flag_sheet (store_at cost) mode 1000 (store_at 0))

-- the assignment is done, with q at z
is : ℤ → Came
is z = runs (success 1) (q_store z)

-- it stops at the operator, node 2, and nothing is written
stops : ℕ → Came
stops number = runs (answer number 2 1) lent

-- where document 01 names no mark of the value, m is any mark
pub trials : Mark → List Trial
trials m =
    (operator 0 (pos 2147483647) (pos 1) gives stops numbers.out_of_range)  -- 2,147,483,647 + 1
    ∷ (operator 3 (neg_ℤ (pos 2147483648)) (neg_ℤ (pos 1)) gives stops numbers.out_of_range)  -- -2,147,483,648 / -1
    ∷ (operator 4 (neg_ℤ (pos 2147483648)) (neg_ℤ (pos 1)) gives is (pos 0))  -- -2,147,483,648 % -1
    ∷ (operator 3 (neg_ℤ (pos 7)) (pos 2) gives is (neg_ℤ (pos 4)))  -- -7 / 2
    ∷ (operator 4 (neg_ℤ (pos 7)) (pos 2) gives is (pos 1))  -- -7 % 2
    ∷ (operator 4 (pos 7) (neg_ℤ (pos 2)) gives is (neg_ℤ (pos 1)))  -- 7 % -2
    ∷ (operator 3 (pos 5) (pos 0) gives stops numbers.divisor_zero)  -- 5 / 0
    ∷ (join (whole 1) (partial 2) gives mark (partial 3))  -- whole 1 joined with partial 2
    ∷ (assign 1 (whole 2) m gives mark (partial 0))  -- context 1 into whole 2
    ∷ (assign 1 (partial 1) (whole 2) gives mark (whole 3))  -- context 1 into partial 1, value whole 2
    ∷ (assign 3 (partial 1) m gives mark (partial 1))  -- context 3 into partial 1
    ∷ (rows (7 ∷ 0 ∷ 2 ∷ 0 ∷ 4 ∷ 0 ∷ []) gives loads (refusal numbers.levels_wrong 0))
    ∷ (flag 400 1 gives runs (answer numbers.partial_test 17 5) (store_at 0))  -- cost 400, permissive: at the second if, node 17
    ∷ (flag 400 0 gives runs (answer numbers.not_below 8 4) (store_at 0))  -- cost 400, strict: at flag := 1, node 8
    ∷ []

pub trials_hold : (m : Mark) → map (λ (t : Trial). answer_to t.asked) (trials m) ≡ map (λ (t : Trial). t.came) (trials m)
unfolding trials answer_to tried ran is stops lent q_store diamond field_q sheet_with operator_sheet flag_sheet store_at of_bits bits_of bytes_of operating calling
trials_hold m = refl
