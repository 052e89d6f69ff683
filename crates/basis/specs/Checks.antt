-- The order of checks, as data: whether each holds, and what is told where it does not.
use Rattle.std.specs.Prelude.{ℕ, ◌≡◌, Bool, true, false, cond, ◌&&◌, List, [], ◌∷◌, Result, MatchResult}
use Rattle.basis.specs.declared.answer.Refusal.{Refusal}
use Rattle.basis.specs.declared.answer.Answer.{Answer}
use Rattle.basis.specs.Answer.{success, refusal, refused, Outcome}

pub record Check : Type 0 where
  pub holds : Bool
  pub number : ℕ
  pub place : ℕ

abbrev pub check : Bool → ℕ → ℕ → Check
check holds number place = record { holds = holds; number = number; place = place }

unfoldable pub all_hold : List Check → Bool
all_hold [] = true
all_hold (c ∷ rest) = c.holds && all_hold rest

-- in order of checks: the first that does not hold is told
unfoldable pub tells : List Check → Answer
tells [] = success 0
tells (c ∷ rest) = cond c.holds (tells rest) (refusal c.number c.place)

-- A refusal writes nothing. Where all checks hold, what comes after them is done.
unfoldable pub checked : List Check → List ℕ → Outcome → Outcome
checked checks out next = cond (all_hold checks) next (record { answer = tells checks; out = out })

-- what the code finds is what the checks tell: the refusal of the first that does not hold,
abbrev pub Refuses : List Check → Refusal → Type 0
Refuses checks r = (all_hold checks ≡ false) × (refused r ≡ tells checks)

-- or none where all hold
abbrev pub Judges : {A : Type 0} → List Check → Result A Refusal → Type 0
Judges checks found = MatchResult found (λ _. all_hold checks ≡ true) (Refuses checks)
