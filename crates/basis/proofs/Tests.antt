-- What a passed test says, and what passes one.
use Prim.Native.Nat.{ℕ, zero, suc, ◌+◌, ◌≤◌, ◌<◌, zero-le}
use native.Mathlib.Numerals.{add-one}
use native.Mathlib.Omega.{arith}
use native.Mathlib.Decide.{ℕ_discrete}
use mathlib.Core.Path.{◌≡◌, refl, sym, ap, ◌∙◌}
use mathlib.Core.Bool.{Bool, true, false, ◌&&◌, and-true, true≢false}
use Rattle.basis.specs.Tests.{◌⇒◌, all, some, which, first}

pub both : (a b : Bool) → (a && b) ≡ true → (a ≡ true) × (b ≡ true)
both true b h = (refl, h)
both false b h = absurd (true≢false (sym h))

pub and_of_lem : {a b : Bool} → a ≡ true → b ≡ true → (a && b) ≡ true
and_of_lem h k = rw (h, k)

pub apply : (a b : Bool) → (a ⇒ b) ≡ true → a ≡ true → b ≡ true
apply true b h k = h
apply false b h k = absurd (true≢false (sym k))

pub implies_of : (a b : Bool) → (a ≡ true → b ≡ true) → (a ⇒ b) ≡ true
implies_of true b f = f refl
implies_of false b f = refl

-- from two facts
pub apply_both : (a b c : Bool) → (a && b ⇒ c) ≡ true → a ≡ true → b ≡ true → c ≡ true
apply_both a b c h p q = apply (a && b) c h (and_of_lem p q)

pub implies_both : (a b c : Bool) → (a ≡ true → b ≡ true → c ≡ true) → (a && b ⇒ c) ≡ true
implies_both a b c f = implies_of (a && b) c (λ h. f (both a b h).0 (both a b h).1)

pub is_false : (a : Bool) → (a ≡ true → ⊥) → a ≡ false
is_false true f = absurd (f refl)
is_false false f = refl

-- a test is true or false
pub split : (a : Bool) {X : Type 0} → (a ≡ true → X) → (a ≡ false → X) → X
split true f g = f refl
split false f g = g refl

pub all-at : (n : ℕ) (P : ℕ → Bool) → all n P ≡ true → (i : ℕ) → i < n → P i ≡ true
unfolding all
all-at zero P h i k = absurd (omega arith)
all-at (suc n) P h i k = go (ℕ_discrete i n) (P n) refl h (all-at n P)
  where
    go : Dec (i ≡ n) → (x : Bool) → P n ≡ x → all (suc n) P ≡ true → (all n P ≡ true → (i : ℕ) → i < n → P i ≡ true) → P i ≡ true
    go d false e h ih = absurd (true≢false (sym (rw (e, all) at h)))
    go (yes d) true e h ih = rw d e
    go (no d) true e h ih = ih (rw (e, all) at h) i (omega arith)

pub all_of : (n : ℕ) (P : ℕ → Bool) → ((i : ℕ) → i < n → P i ≡ true) → all n P ≡ true
unfolding all
all_of zero P f = refl
all_of (suc n) P f = rw (f n (omega arith), all) (all_of n P (λ i h. f i (omega arith)))

-- what `which` gives passes, if something does
abbrev Gives : ℕ → (ℕ → Bool) → Type 0
Gives n P = some n P ≡ true → (which n P < n) × (P (which n P) ≡ true)

pub which-at : (n : ℕ) (P : ℕ → Bool) → some n P ≡ true → (which n P < n) × (P (which n P) ≡ true)
unfolding some which
which-at zero P h = absurd (true≢false (sym h))
which-at (suc n) P h = go (P n) refl (which-at n P) h
  where
    go : (x : Bool) → P n ≡ x → Gives n P → Gives (suc n) P
    go true e ih h = rw (e, which) (omega arith, e)
    go false e ih h = let r = ih (rw (e, some) at h) in rw (e, which) (omega arith, r.1)

pub some_of : (n : ℕ) (P : ℕ → Bool) (i : ℕ) → i < n → P i ≡ true → some n P ≡ true
unfolding some
some_of zero P i h k = absurd (omega arith)
some_of (suc n) P i h k = go (ℕ_discrete i n) (P n) refl (some_of n P i)
  where
    go : Dec (i ≡ n) → (x : Bool) → P n ≡ x → (i < n → P i ≡ true → some n P ≡ true) → some (suc n) P ≡ true
    go d true e ih = rw (e, some)
    go (yes d) false e ih = absurd (true≢false (sym (rw d at k) ∙ e))
    go (no d) false e ih = rw (e, some) (ih (omega arith) k)

-- two tests that follow from each other are equal
pub iff : (a b : Bool) → (a ≡ true → b ≡ true) → (b ≡ true → a ≡ true) → a ≡ b
iff true b f g = sym (f refl)
iff false true f g = absurd (true≢false (sym (g refl)))
iff false false f g = refl

-- ── a loop that tests every number below n ──────────────────────────────────────────────────

pub and_false : (a b : Bool) → b ≡ false → (a && b) ≡ false
and_false true b e = e
and_false false b e = refl

module _ (P : ℕ → Bool) where
  pub all_none : all 0 P ≡ true
  unfolding all
  all_none = refl

  pub all_suc : (i : ℕ) → all (i + 1) P ≡ (all i P && P i)
  unfolding all
  all_suc i = rw (add-one i) (split (P i) (λ e. rw (e, all) (sym (and-true _))) (λ e. rw (e, all) (sym (and_false (all i P) false refl))))

  pub all_three : all 3 P ≡ (P 0 && P 1 && P 2)
  all_three = rw (all_suc 2, all_suc 1, all_suc 0, all_none)

  -- what passes below i and at i passes below i + 1
  pub all_more : (i : ℕ) → all i P ≡ true → P i ≡ true → all (i + 1) P ≡ true
  all_more i below here = all_suc i ∙ and_of_lem below here

  -- one that fails is enough
  pub all-fails : (n i : ℕ) → i < n → P i ≡ false → all n P ≡ false
  all-fails n i h e = is_false (all n P) (λ t. true≢false (sym (all-at n P t i h) ∙ e))

-- tests that agree below n
pub all_same : (n : ℕ) (P Q : ℕ → Bool) → ((i : ℕ) → i < n → P i ≡ Q i) → all n P ≡ all n Q
all_same n P Q f =
    iff (all n P) (all n Q)
    (λ h. all_of n Q (λ i l. sym (f i l) ∙ all-at n P h i l))
    (λ h. all_of n P (λ i l. f i l ∙ all-at n Q h i l))

-- two tests at once
pub all_both : (n : ℕ) (P Q : ℕ → Bool) → all n (λ i. P i && Q i) ≡ (all n P && all n Q)
all_both n P Q =
    iff (all n (λ i. P i && Q i)) (all n P && all n Q)
    (λ h. and_of_lem (all_of n P (λ i l. (both (P i) (Q i) (all-at n _ h i l)).0)) (all_of n Q (λ i l. (both (P i) (Q i) (all-at n _ h i l)).1)))
    (λ h. let each = both (all n P) (all n Q) h in all_of n _ (λ i l. and_of_lem (all-at n P each.0 i l) (all-at n Q each.1 i l)))

-- ── a loop that looks for the first number that passes ──────────────────────────────────────

-- no number below n passes
abbrev pub None : ℕ → (ℕ → Bool) → Type 0
None n P = (i : ℕ) → i < n → P i ≡ false

-- the one that passes after none did is the first
pub first-is : (n : ℕ) (P : ℕ → Bool) (i : ℕ) → i < n → None i P → P i ≡ true → first n P ≡ i
unfolding first
first-is zero P i inside none here = absurd (omega arith)
first-is (suc n) P zero inside none here = rw (here, first)
first-is (suc n) P (suc i) inside none here =
    rw (none zero (omega arith), first) (ap suc (first-is n (λ j. P (suc j)) i (omega arith) (λ j h. none (suc j) (omega arith)) here))

pub first-none : (n : ℕ) (P : ℕ → Bool) → None n P → first n P ≡ n
unfolding first
first-none zero P none = refl
first-none (suc n) P none = rw (none zero (omega arith), first) (ap suc (first-none n (λ i. P (suc i)) (λ i h. none (suc i) (omega arith))))

-- the first passes, if it is below n
pub first-at : (n : ℕ) (P : ℕ → Bool) (i : ℕ) → first n P ≡ i → i < n → P i ≡ true
unfolding first
first-at zero P i e h = absurd (omega arith)
first-at (suc n) P zero e h = split (P zero) (λ t. t) (λ f. let more : suc (first n (λ j. P (suc j))) ≡ zero = rw (f, first) at e in absurd (omega arith))
first-at (suc n) P (suc i) e h =
    split (P zero)
    (λ t. let none : zero ≡ suc i = rw (t, first) at e in absurd (omega arith))
    (λ f. let more : suc (first n (λ j. P (suc j))) ≡ suc i = rw (f, first) at e in first-at n (λ j. P (suc j)) i (omega arith) (omega arith))

pub first-most : (n : ℕ) (P : ℕ → Bool) → first n P ≤ n
unfolding first
first-most zero P = zero-le
first-most (suc n) P = split (P zero) (λ e. rw (e, first) zero-le) (λ e. rw (e, first) (omega (arith, first-most n (λ i. P (suc i)))))

-- if the first is n, none passes
pub none_first : (n : ℕ) (P : ℕ → Bool) → first n P ≡ n → None n P
unfolding first
none_first zero P e i h = absurd (omega arith)
none_first (suc n) P e zero h = is_false (P zero) (λ t. let none : zero ≡ suc n = rw (t, first) at e in omega arith)
none_first (suc n) P e (suc i) h =
    split (P zero)
    (λ t. let none : zero ≡ suc n = rw (t, first) at e in absurd (omega arith))
    (λ f. let more : suc (first n (λ i. P (suc i))) ≡ suc n = rw (f, first) at e in none_first n (λ i. P (suc i)) (omega arith) i (omega arith))
