-- Laws of checks in order, once over the list: the first that does not hold is told, all hold if the number is 0, a refusal writes nothing, and what is told
-- is one of the list's.
use Prim.Native.Nat.{ℕ}
use mathlib.Core.Path.{◌≡◌, refl, sym, ◌∙◌}
use mathlib.Core.Bool.{true, false, true≢false}
use mathlib.Core.List.{List, [], ◌∷◌, ◌++◌}
use Rattle.basis.specs.Numbers as numbers
use Rattle.std.specs.Prelude.{Result, Ok, Err}
use Rattle.basis.specs.declared.answer.Refusal.{Refusal}
use Rattle.basis.specs.declared.answer.Answer.{Answer}
use Rattle.basis.specs.Answer.{success, refusal, refused, verdict_of, Outcome}
use Rattle.basis.specs.Checks.{Check, all_hold, tells, checked, Refuses, Judges}
use Rattle.basis.proofs.Tests.{split}

-- the first check holds, or is told
module _ (c : Check) (rest : List Check) where
  pub first_holds : c.holds ≡ true → (all_hold (c ∷ rest) ≡ all_hold rest) × (tells (c ∷ rest) ≡ tells rest)
  unfolding all_hold tells
  first_holds h = rw h (refl, refl)

  pub first-fails : c.holds ≡ false → (all_hold (c ∷ rest) ≡ false) × (tells (c ∷ rest) ≡ refusal c.number c.place)
  unfolding all_hold tells
  first-fails h = rw h (refl, refl)

-- success is told of checks that all hold
pub tells-success : (checks : List Check) → all_hold checks ≡ true → tells checks ≡ success 0
unfolding tells
tells-success [] h = refl
tells-success (c ∷ rest) h =
    split c.holds
    (λ t. let (hold, told) = first_holds c rest t in told ∙ tells-success rest (sym hold ∙ h))
    (λ f. absurd (true≢false (sym h ∙ (first-fails c rest f).0)))

-- ── one list after another ──────────────────────────────────────────────────────────────────

module _ (after : List Check) where
  -- where all of the first hold, the second decides
  pub append-holds : (checks : List Check) → all_hold checks ≡ true → (all_hold (checks ++ after) ≡ all_hold after) × (tells (checks ++ after) ≡ tells after)
  append-holds [] h = (refl, refl)
  append-holds (c ∷ rest) h =
      split c.holds
      (λ t.
      let (hold, told) = first_holds c (rest ++ after) t in
      let (holds, tell) = append-holds rest (sym (first_holds c rest t).0 ∙ h) in
      (hold ∙ holds, told ∙ tell))
      (λ f. absurd (true≢false (sym h ∙ (first-fails c rest f).0)))

  -- else the first of them that does not hold is told
  pub append-fails : (checks : List Check) → all_hold checks ≡ false → (all_hold (checks ++ after) ≡ false) × (tells (checks ++ after) ≡ tells checks)
  unfolding all_hold
  append-fails [] h = absurd (true≢false h)
  append-fails (c ∷ rest) h =
      split c.holds
      (λ t.
      let (hold, told) = first_holds c (rest ++ after) t in
      let (same, tell) = first_holds c rest t in
      let (fails, tells-rest) = append-fails rest (sym same ∙ h) in
      (hold ∙ fails, told ∙ tells-rest ∙ sym tell))
      (λ f. let (fails, told) = first-fails c (rest ++ after) f in (fails, told ∙ sym (first-fails c rest f).1))

  -- all of both hold where all of the first do, and all of the second
  pub append-all : (checks : List Check) → all_hold (checks ++ after) ≡ true → (all_hold checks ≡ true) × (all_hold after ≡ true)
  append-all checks h =
      split (all_hold checks)
      (λ t. (t, sym (append-holds checks t).0 ∙ h))
      (λ f. absurd (true≢false (sym h ∙ (append-fails checks f).0)))

-- ── what is told is one of the list's ───────────────────────────────────────────────────────

-- what each check tells, where it does not hold, has a property
infixr 10 ◌also◌
pub data Each (Q : Answer → Type 0) : List Check → Type 0 where
  no_more : Each Q []
  ◌also◌ : {c : Check} {rest : List Check} → (c.holds ≡ false → Q (refusal c.number c.place)) → Each Q rest → Each Q (c ∷ rest)

pub tells_one : (Q : Answer → Type 0) (checks : List Check) → Each Q checks → all_hold checks ≡ false → Q (tells checks)
unfolding all_hold
tells_one Q [] no_more h = absurd (true≢false h)
tells_one Q (c ∷ rest) (q also each) h =
    split c.holds
    (λ t. let (hold, told) = first_holds c rest t in rw told (tells_one Q rest each (sym hold ∙ h)))
    (λ f. rw (first-fails c rest f).1 (q f))

-- no check of the list tells number 0: so all hold if the number is 0
abbrev pub Numbered : List Check → Type 0
Numbered checks = Each (λ a. a.number ≡ numbers.done → ⊥) checks

module _ (checks : List Check) where
  pub all_hold_lem : Numbered checks → (tells checks).number ≡ numbers.done → all_hold checks ≡ true
  all_hold_lem numbered e = split (all_hold checks) (λ t. t) (λ f. absurd (tells_one (λ a. a.number ≡ numbers.done → ⊥) checks numbered f e))

  -- ── a call ────────────────────────────────────────────────────────────────────────────────

  module _ (out : List ℕ) (next : Outcome) where
    pub goes_on : all_hold checks ≡ true → checked checks out next ≡ next
    unfolding checked
    goes_on h = rw h

    -- A refusal writes nothing.
    pub refuses : all_hold checks ≡ false → checked checks out next ≡ record { answer = tells checks; out = out }
    unfolding checked
    refuses h = rw h

    -- number 0 comes only past all checks
    pub past_checks : Numbered checks → (checked checks out next).answer.number ≡ numbers.done → (all_hold checks ≡ true) × (checked checks out next ≡ next)
    past_checks numbered e =
        split (all_hold checks)
        (λ t. (t, goes_on t))
        (λ f. absurd (tells_one (λ a. a.number ≡ numbers.done → ⊥) checks numbered f (rw (refuses f) at e)))

-- ── what the code finds ─────────────────────────────────────────────────────────────────────

-- the answer of what is found is told
pub judged_told : (checks : List Check) (found : Result (Unit {0}) Refusal) → Judges checks found → verdict_of found ≡ tells checks
judged_told checks (Ok _) holds = sym (tells-success checks holds)
judged_told checks (Err r) (fails, told) = told

-- past a check that holds, the rest is judged; one that does not hold is found
module _ (c : Check) (rest : List Check) where
  pub judge_next : {A : Type 0} → c.holds ≡ true → (found : Result A Refusal) → Judges rest found → Judges (c ∷ rest) found
  judge_next h (Ok _) holds = (first_holds c rest h).0 ∙ holds
  judge_next h (Err r) (fails, told) = ((first_holds c rest h).0 ∙ fails, told ∙ sym (first_holds c rest h).1)

  pub judge_fails : c.holds ≡ false → (r : Refusal) → refused r ≡ refusal c.number c.place → Refuses (c ∷ rest) r
  judge_fails f r is = ((first-fails c rest f).0, is ∙ sym (first-fails c rest f).1)

-- past a list that holds, the next is judged; what is found of a list is found of it and more
module _ (before after : List Check) where
  pub judge_append : {A : Type 0} → all_hold before ≡ true → (found : Result A Refusal) → Judges after found → Judges (before ++ after) found
  judge_append h (Ok _) holds = (append-holds after before h).0 ∙ holds
  judge_append h (Err r) (fails, told) = ((append-holds after before h).0 ∙ fails, told ∙ sym (append-holds after before h).1)

  pub judge_before : (r : Refusal) → Refuses before r → Refuses (before ++ after) r
  judge_before r (fails, told) = ((append-fails after before fails).0, told ∙ sym (append-fails after before fails).1)
