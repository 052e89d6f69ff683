-- How the functions of a run answer, in one number. Only contracts inside the product cite it, never a public call.
--
--   bits                0 to 31         32 to 47   48 to 55                     56 to 62   63
--   an expression       value           mark       free, for a field             0         0
--   a stop              fuel left       place      free, for a field             number    1
--   a run that is done  fuel left       0          0                             0         0
--   a test              value           context    0                             0         0
--
-- To a run, bits 32 to 62 of an expression are one number, the mark's. What stands inside a mark's number and a
-- context's number is a matter of `Meanings`.
use Rattle.std.specs.Prelude.{ℕ, pos, Result as Outcome, MatchResult, ◌-◌, ◌/◌, ◌%◌, ◌≤◌, ◌<◌, ◌≡◌, cond, List, [], ◌∷◌, get_or, ltb}
use Rattle.basis.specs.Numbers as numbers
use Rattle.value.specs.Bytes.{of_bits}
use Rattle.value.specs.declared.Value.{Value}
use Rattle.rules.specs.Ends.{Why, out_of_range, divisor_zero, not_below, partial_test, Result, gives, stops}
use Rattle.store.specs.Cells.{Cell, cell, Store}
use Rattle.marks.specs.declared.Cell.{Cell as Held}
use Rattle.marks.specs.declared.Stop.{Stop as Halt}

-- ── the layouts ─────────────────────────────────────────────────────────────────────────────

-- where a word's upper half begins, a stop's number, and the stops themselves
abbrev pub upper_half : ℕ
upper_half = 4294967296

abbrev pub number_from : ℕ
number_from = 72057594037927936

abbrev pub stop_from : ℕ
stop_from = 9223372036854775808

-- so many places and numbers there is room for
abbrev pub place_room : ℕ
place_room = 65536

abbrev pub number_room : ℕ
number_room = 128

-- a number that fits a half, an upper half below a stop's, and a place
abbrev pub Half : ℕ → Type 0
Half n = n < upper_half

abbrev pub Below : ℕ → Type 0
Below n = n < 2147483648

abbrev pub Place : ℕ → Type 0
Place n = n < place_room

-- ── a value with its mark ───────────────────────────────────────────────────────────────────

abbrev pub value_in : ℕ → Value
value_in word = record { n = of_bits (word % upper_half) }

abbrev pub mark_in : ℕ → ℕ
mark_in word = word / upper_half

abbrev pub blank : Held
blank = record { value = record { n = pos 0 }; mark = 0 }

-- by what marks' numbers stand for
module _ {A : Type 0} (of : ℕ → A) where
  abbrev pub cell_in : ℕ → Cell A
  cell_in word = cell (value_in word) (of (mark_in word))

  abbrev pub cell_of : Held → Cell A
  cell_of held = cell held.value (of held.mark)

  -- a work store has a cell for each field, and blank ones beyond
  unfoldable pub work_at : List Held → ℕ → Cell A
  work_at work i = cell_of (get_or work i blank)

  abbrev pub work_of : List Held → Store A
  work_of work = work_at work

-- a word made of a value and a mark's number
pub record Holds (v : Value) (mark r : ℕ) : Type 0 where
  pub value : value_in r ≡ v
  pub mark-is : mark_in r ≡ mark

-- ── a stop ──────────────────────────────────────────────────────────────────────────────────

abbrev pub Goes : ℕ → Type 0
Goes word = word < stop_from

abbrev pub Stops : ℕ → Type 0
Stops word = stop_from ≤ word

abbrev pub left_in : ℕ → ℕ
left_in word = word % upper_half

abbrev pub place_in : ℕ → ℕ
place_in word = word / upper_half % place_room

abbrev pub number_in : ℕ → ℕ
number_in word = word / number_from % number_room

unfoldable pub why_of : ℕ → Why
why_of number = get_or (out_of_range ∷ divisor_zero ∷ not_below ∷ []) (number - numbers.out_of_range) partial_test

-- a stop's word: why, where, and the fuel left
pub record Stopped (number place left r : ℕ) : Type 0 where
  pub stops : Stops r
  pub number_is : number_in r ≡ number
  pub place_is : place_in r ≡ place
  pub left_is : left_in r ≡ left

-- a stop that a run meets once its unit is spent
abbrev pub Met : ℕ → Type 0
Met number = (numbers.out_of_range ≤ number) × (number ≤ numbers.partial_test)

abbrev pub Numbered : ℕ → Type 0
Numbered word = Stops word → Met (number_in word)

-- ── answers ─────────────────────────────────────────────────────────────────────────────────

-- what a word has: what it stands for, or a stop
unfoldable pub result_of : {A : Type 0} → (ℕ → A) → ℕ → Result A
result_of of word = cond (ltb word stop_from) (gives (of word)) (stops (why_of (number_in word)) (place_in word))

-- the answer r has the result x, and what it gives is known
abbrev pub Asked : {A : Type 0} → (ℕ → A) → (ℕ → Type 0) → Result A → Outcome ℕ Halt → Type 0
Asked of Known x r = MatchResult r (λ n. Known n × (x ≡ gives (of n))) (λ s. Met (numbers.number_of s.number) × (x ≡ stops (why_of (numbers.number_of s.number)) s.place))

-- the word r has the result x, and what it gives is known
pub record Answers {A : Type 0} (of : ℕ → A) (Known : ℕ → Type 0) (x : Result A) (r : ℕ) : Type 0 where
  pub is : result_of of r ≡ x
  pub known : Goes r → Known r
  pub number : Numbered r
