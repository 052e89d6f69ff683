-- Two questions, two results or two ends side by side: a relation that holds where both go on. Where either stops, nothing is asked.
use Prim.Native.Nat.{ℕ, zero, suc}
use Rattle.rules.specs.Ends.{Why, Try, fine, fails, Result, gives, stops, End, done, spent, stopped, at, and_then, with, spend, bind}
use Rattle.store.specs.Cells.{Store}

pub data Fines {A B : Type 0} (P : A → B → Type 0) : Try A → Try B → Type 0 where
  fines : {a : A} {b : B} → P a b → Fines P (fine a) (fine b)
  fails-first : {why : Why} {y : Try B} → Fines P (fails why) y
  fails-second : {x : Try A} {why : Why} → Fines P x (fails why)

pub data Results {A B : Type 0} (P : A → B → Type 0) : Result A → Result B → Type 0 where
  results : {a : A} {b : B} → P a b → Results P (gives a) (gives b)
  stops_first : {why : Why} {place : ℕ} {y : Result B} → Results P (stops why place) y
  stops_second : {x : Result A} {why : Why} {place : ℕ} → Results P x (stops why place)

pub data Ends {A : Type 0} (P : Store A → Store A → Type 0) : End A → End A → Type 0 where
  dones : {σ τ : Store A} {f g : ℕ} → P σ τ → Ends P (done σ f) (done τ g)
  spent-first : {place : ℕ} {y : End A} → Ends P (spent place) y
  spent-second : {x : End A} {place : ℕ} → Ends P x (spent place)
  stopped-first : {why : Why} {place left : ℕ} {y : End A} → Ends P (stopped why place left) y
  stopped-second : {x : End A} {why : Why} {place left : ℕ} → Ends P x (stopped why place left)

pub both_done : {A : Type 0} {P : Store A → Store A → Type 0} {σ τ : Store A} {f g : ℕ} → Ends P (done σ f) (done τ g) → P σ τ
both_done (dones h) = h

-- ── the ways to go on ───────────────────────────────────────────────────────────────────────

pub at_results : {A B : Type 0} {P : A → B → Type 0} (place : ℕ) {x : Try A} {y : Try B} → Fines P x y → Results P (at place x) (at place y)
unfolding at
at_results place (fines h) = results h
at_results place fails-first = stops_first
at_results place fails-second = stops_second

pub any_fines : {A B : Type 0} (x : Try A) (y : Try B) → Fines (λ a b. Unit {0}) x y
any_fines (fine a) (fine b) = fines tt
any_fines (fine a) (fails why) = fails-second
any_fines (fails why) y = fails-first

pub then_results : {A B C D : Type 0} {P : A → B → Type 0} {Q : C → D → Type 0} {x : Result A} {y : Result B} {f : A → Result C} {g : B → Result D}
    → Results P x y → ((a : A) (b : B) → P a b → Results Q (f a) (g b)) → Results Q (and_then x f) (and_then y g)
unfolding and_then
then_results (results {a} {b} h) next = next a b h
then_results stops_first next = stops_first
then_results stops_second next = stops_second

module _ {A : Type 0} {P : Store A → Store A → Type 0} where
  pub spend-ends : (place f g : ℕ) {x y : ℕ → End A} → ((f g : ℕ) → Ends P (x f) (y g)) → Ends P (spend place f x) (spend place g y)
  unfolding spend
  spend-ends place zero g next = spent-first
  spend-ends place (suc f) zero next = spent-second
  spend-ends place (suc f) (suc g) next = next f g

  pub with-ends : {B C : Type 0} {Q : B → C → Type 0} (f g : ℕ) {x : Result B} {y : Result C} {k : B → End A} {l : C → End A}
      → Results Q x y → ((b : B) (c : C) → Q b c → Ends P (k b) (l c)) → Ends P (with x f k) (with y g l)
  unfolding with
  with-ends f g (results {a} {b} h) next = next a b h
  with-ends f g stops_first next = stopped-first
  with-ends f g stops_second next = stopped-second

  pub bind-ends : {Q : Store A → Store A → Type 0} {x y : End A} {k l : Store A → ℕ → End A}
      → Ends Q x y → ((σ τ : Store A) (f g : ℕ) → Q σ τ → Ends P (k σ f) (l τ g)) → Ends P (bind x k) (bind y l)
  unfolding bind
  bind-ends (dones {σ} {τ} {f} {g} h) next = next σ τ f g h
  bind-ends spent-first next = spent-first
  bind-ends spent-second next = spent-second
  bind-ends stopped-first next = stopped-first
  bind-ends stopped-second next = stopped-second
