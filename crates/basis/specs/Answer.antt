-- What comes back from a call: a number of document 01's table, a place, and the units spent.
use Rattle.std.specs.Prelude.{ℕ, ◌+◌, ◌*◌, ◌/◌, ◌%◌, ◌^◌, List, ◌∷◌, ◌++◌, Result, Ok, Err}
use Rattle.std.specs.Fmt.{decimal}
use Rattle.basis.specs.Numbers as numbers
use Rattle.basis.specs.declared.answer.Refusal.{Refusal}
use Rattle.basis.specs.declared.answer.Answer.{Answer}

abbrev pub answer : ℕ → ℕ → ℕ → Answer
answer number place units = record { number = number; place = place; units = units }

-- Success is number 0, place 0.
abbrev pub success : ℕ → Answer
success units = answer numbers.done 0 units

-- Units are 0 for 1 to 11, for 19 to 22, for load and for hand-out.
abbrev pub refusal : ℕ → ℕ → Answer
refusal number place = answer number place 0

-- The answer word: number in bits 0 to 7, place in bits 8 to 23, bits 24 to 31 zero, units in bits 32 to 63.
abbrev pub word_of : Answer → ℕ
word_of a = a.number + a.place * 2 ^ 8 + a.units * 2 ^ 32

abbrev pub answer_in : ℕ → Answer
answer_in word = answer (word % 2 ^ 8) (word / 2 ^ 8 % 2 ^ 16) (word / 2 ^ 32)

-- an answer as text: number, place and units in decimal, a blank apart
abbrev pub answer_text : Answer → List ℕ
answer_text a = decimal a.number ++ 32 ∷ decimal a.place ++ 32 ∷ decimal a.units

-- what a call that writes comes to: its answer, and the lent output afterwards
pub record Outcome : Type 0 where
  pub answer : Answer
  pub out : List ℕ

-- what the code gives as an answer: a refusal, or the units spent
abbrev pub refused : Refusal → Answer
refused r = answer (numbers.number_of r.number) r.place r.units

abbrev pub answer_of : Result ℕ Refusal → Answer
answer_of (Ok units) = success units
answer_of (Err r) = refused r

-- the same of a call that spends nothing
abbrev pub verdict_of : Result (Unit {0}) Refusal → Answer
verdict_of (Ok _) = success 0
verdict_of (Err r) = refused r
