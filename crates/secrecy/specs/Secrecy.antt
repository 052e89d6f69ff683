-- Demand 3, over the bytes of the exported calls `run` and `hand_out`. Agreement is document 01's paragraph, in `rules/specs/Agreement.antt`;
-- half-closed is partial. `proofs/Secrecy.antt` proves the three statements.
use Rattle.std.specs.Prelude.{ℕ, ◌<◌, ◌≡◌, List, ◌⊎◌, ◌≢◌, take}
use Rattle.basis.specs.Numbers as numbers
use Rattle.basis.specs.Bytes.{word_at}
use Rattle.value.specs.declared.Value.{Value}
use Rattle.levels.specs.Levels.{count, highest_of}
use Rattle.levels.specs.Lattice.{lattice}
use Rattle.sections.specs.Sections.{levels_of}
use Rattle.sheet.specs.Load.{field_count}
use Rattle.store.specs.Cells.{Cell, cell}
use Rattle.store.specs.Marks.{Mark, partial}
use Rattle.store.specs.Stores.{store_of, store_length}
use Rattle.rules.specs.Agreement.{StoresAgree}
use Rattle.handout.specs.Answers.{answer_length}
use Rattle.basis.specs.Answer.{Outcome}
use Rattle.beltuqash.specs.Calls.{run, hand_out}

-- a call of run, but for the sheet and the mode
pub record Call : Type 0 where
  pub start : List ℕ  -- the start store
  pub fuel : ℕ
  pub lent : List ℕ  -- the lent output, before the call

module _ (sheet : List ℕ) where
  -- a reader stands at a level of the sheet
  abbrev pub Reader : ℕ → Type 0
  Reader R = R < count (levels_of sheet)

  abbrev pub BelowHighest : ℕ → Type 0
  BelowHighest R = R ≢ highest_of (levels_of sheet)

  -- two stores agree for him, by the sheet's levels
  abbrev pub AgreeFor : ℕ → List ℕ → List ℕ → Type 0
  AgreeFor R s t = StoresAgree (lattice (levels_of sheet)) R s t

  module _ (mode : ℕ) (c : Call) where
    abbrev pub outcome : Outcome
    outcome = run sheet c.start mode c.fuel c.lent

    -- success is number 0
    abbrev pub Finishes : Type 0
    Finishes = outcome.answer.number ≡ numbers.done

    -- success writes exactly the store, at the front of the lent output
    abbrev pub final_store : List ℕ
    final_store = take (store_length (field_count sheet)) outcome.out

  -- a request of the reader's on a store, with a lent output
  module _ (R : ℕ) (request store lent : List ℕ) where
    abbrev pub reply : Outcome
    reply = hand_out sheet store R request lent

    abbrev pub Answers : Type 0
    Answers = reply.answer.number ≡ numbers.done

    -- success writes exactly the answer, at the front of the lent output
    abbrev pub answer_written : List ℕ
    answer_written = take (answer_length request) reply.out

-- a half-closed field is partial
pub data HalfClosed : Cell Mark → Type 0 where
  half_closed : {v : Value} {A : ℕ} → HalfClosed (cell v (partial A))

-- no field of the store is; a store begins with its count
abbrev pub NoneHalfClosed : List ℕ → Type 0
NoneHalfClosed s = (i : ℕ) → i < word_at s 0 → HalfClosed (store_of s i) → ⊥

-- two runs that demand 3 speaks of
pub record TwoRuns (sheet : List ℕ) (mode : ℕ) (first second : Call) (R : ℕ) : Type 0 where
  pub reader : Reader sheet R
  pub agree : AgreeFor sheet R first.start second.start
  pub stands : BelowHighest sheet R ⊎ (NoneHalfClosed first.start × NoneHalfClosed second.start)
  pub finish : Finishes sheet mode first × Finishes sheet mode second

-- One sheet, one mode, two start stores that agree for a reader who stands below the highest level (or neither store has a half-closed field): if both
-- runs finish, the final stores agree for him, half-closed fields included,
abbrev pub FinalStoresAgree : Type 0
FinalStoresAgree =
    (sheet : List ℕ) (mode : ℕ) (first second : Call) (R : ℕ)
    → TwoRuns sheet mode first second R
    → AgreeFor sheet R (final_store sheet mode first) (final_store sheet mode second)

-- and one request of his that both answer gets the same bytes.
abbrev pub AnswersSame : Type 0
AnswersSame =
    (sheet : List ℕ) (mode : ℕ) (first second : Call) (R : ℕ)
    → TwoRuns sheet mode first second R
    → (request lent₁ lent₂ : List ℕ)
    → Answers sheet R request (final_store sheet mode first) lent₁ × Answers sheet R request (final_store sheet mode second) lent₂
    → answer_written sheet R request (final_store sheet mode first) lent₁ ≡ answer_written sheet R request (final_store sheet mode second) lent₂

-- A run that strict mode finishes, permissive mode finishes with the same store and units.
abbrev pub StrictInsidePermissive : Type 0
StrictInsidePermissive =
    (sheet : List ℕ) (c : Call)
    → Finishes sheet 0 c
    → outcome sheet 1 c ≡ outcome sheet 0 c
