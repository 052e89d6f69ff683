-- No refusal has the number of success, no two cases have one number, and what the code gives is told apart by its answer.
use Prim.Native.Nat.{ℕ}
use native.Mathlib.Omega.{arith}
use mathlib.Core.Path.{◌≡◌, refl, sym, ap, ◌∙◌}
use mathlib.Core.List.{[], ◌∷◌}
use lib.ListN.{get_or}
use Rattle.std.specs.Prelude.{Result, Ok, Err}
use Rattle.basis.specs.declared.answer.Answer.{Answer}
use Rattle.basis.specs.declared.answer.Refusal.{Refusal}
use Rattle.basis.specs.Answer.{refused, answer_of, verdict_of}
use Rattle.basis.specs.Numbers.{done, number_of}
use Rattle.basis.specs.declared.numbers.Number.{Number}
use Rattle.basis.specs.declared.numbers.Number.TheVariants.{SheetLength, CountOutside, LevelsWrong, NameWrong, NotUsedOnce, TooDeep, StoreMisfit, MarkWrong, ModeOrFuel, OutShort, FuelSpent, OutOfRange, DivisorZero, NotBelow, PartialTest, ReaderOrRequest, PartialAsked, NodeUnknown, NodeUnused, NodeRange, NodeSort}

pub number_some : (number : Number) → number_of number ≡ done → ⊥
number_some SheetLength e = omega arith
number_some CountOutside e = omega arith
number_some LevelsWrong e = omega arith
number_some NameWrong e = omega arith
number_some NotUsedOnce e = omega arith
number_some TooDeep e = omega arith
number_some StoreMisfit e = omega arith
number_some MarkWrong e = omega arith
number_some ModeOrFuel e = omega arith
number_some OutShort e = omega arith
number_some FuelSpent e = omega arith
number_some OutOfRange e = omega arith
number_some DivisorZero e = omega arith
number_some NotBelow e = omega arith
number_some PartialTest e = omega arith
number_some ReaderOrRequest e = omega arith
number_some PartialAsked e = omega arith
number_some NodeUnknown e = omega arith
number_some NodeUnused e = omega arith
number_some NodeRange e = omega arith
number_some NodeSort e = omega arith

-- the case that has a number; 0 and 5 have none, and any stands for it
numbered : ℕ → Number
numbered n =
    get_or (SheetLength ∷ SheetLength ∷ CountOutside ∷ LevelsWrong ∷ NameWrong ∷ NotUsedOnce ∷ NotUsedOnce ∷ TooDeep ∷ StoreMisfit ∷ MarkWrong ∷ ModeOrFuel ∷ OutShort ∷ FuelSpent ∷ OutOfRange ∷ DivisorZero ∷ NotBelow ∷ PartialTest ∷ ReaderOrRequest ∷ PartialAsked ∷ NodeUnknown ∷ NodeUnused ∷ NodeRange ∷ NodeSort ∷ []) n SheetLength

numbered_back : (number : Number) → numbered (number_of number) ≡ number
unfolding numbered
numbered_back SheetLength = refl
numbered_back CountOutside = refl
numbered_back LevelsWrong = refl
numbered_back NameWrong = refl
numbered_back NotUsedOnce = refl
numbered_back TooDeep = refl
numbered_back StoreMisfit = refl
numbered_back MarkWrong = refl
numbered_back ModeOrFuel = refl
numbered_back OutShort = refl
numbered_back FuelSpent = refl
numbered_back OutOfRange = refl
numbered_back DivisorZero = refl
numbered_back NotBelow = refl
numbered_back PartialTest = refl
numbered_back ReaderOrRequest = refl
numbered_back PartialAsked = refl
numbered_back NodeUnknown = refl
numbered_back NodeUnused = refl
numbered_back NodeRange = refl
numbered_back NodeSort = refl

pub number_once : (a b : Number) → number_of a ≡ number_of b → a ≡ b
number_once a b e = sym (numbered_back a) ∙ ap numbered e ∙ numbered_back b

refusal_once : (r s : Refusal) → refused r ≡ refused s → r ≡ s
refusal_once r s e =
    let number = number_once r.number s.number (ap (λ (a : Answer). a.number) e) in
    let place = ap (λ (a : Answer). a.place) e in
    let units = ap (λ (a : Answer). a.units) e in
    ap (λ (n : Number). record { number = n; place = r.place; units = r.units }) number
    ∙ ap (λ (p : ℕ). record { number = s.number; place = p; units = r.units }) place
    ∙ ap (λ (u : ℕ). record { number = s.number; place = s.place; units = u }) units

-- two results that have one answer are one
pub answer_once : (r s : Result ℕ Refusal) → answer_of r ≡ answer_of s → r ≡ s
answer_once (Ok m) (Ok n) e = ap Ok (ap (λ (a : Answer). a.units) e)
answer_once (Ok m) (Err s) e = absurd (number_some s.number (sym (ap (λ (a : Answer). a.number) e)))
answer_once (Err r) (Ok n) e = absurd (number_some r.number (ap (λ (a : Answer). a.number) e))
answer_once (Err r) (Err s) e = ap Err (refusal_once r s e)

pub verdict_once : (r s : Result (Unit {0}) Refusal) → verdict_of r ≡ verdict_of s → r ≡ s
verdict_once (Ok m) (Ok n) e = refl
verdict_once (Ok m) (Err s) e = absurd (number_some s.number (sym (ap (λ (a : Answer). a.number) e)))
verdict_once (Err r) (Ok n) e = absurd (number_some r.number (ap (λ (a : Answer). a.number) e))
verdict_once (Err r) (Err s) e = ap Err (refusal_once r s e)
