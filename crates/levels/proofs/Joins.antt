-- What follows from the laws in every lattice: joining is commutative, associative and idempotent, with BOT as neutral level; and TOP lies at or
-- below no other level.
use Prim.Native.Nat.{ℕ, ◌<◌}
use mathlib.Core.Path.{◌≡◌}
use mathlib.Core.Logic.{◌≢◌}
use mathlib.Core.Bool.{true, false}
use Rattle.basis.proofs.Tests.{is_false}
use Rattle.levels.specs.Lattice.{Lattice, Laws}

module _ (𝓛 : Lattice) (𝓘 : Laws 𝓛) where
  open 𝓛 use {levels, le, join, bot, top}
  open 𝓘 use {le_refl, le_trans, le_antisym, bot-least, top_in, top-greatest}
  open 𝓘 use {join_in, join_upper_left as join_l, join_upper_right as join_r, join-least}

  pub join_comm : (a b : ℕ) → join a b ≡ join b a
  join_comm a b = le_antisym (join_in a b) (join_in b a) (join-least (join_r b a) (join_l b a)) (join-least (join_r a b) (join_l a b))

  pub join_assoc : (a b c : ℕ) → join (join a b) c ≡ join a (join b c)
  join_assoc a b c =
      let ab = join a b in
      let bc = join b c in
      le_antisym (join_in ab c) (join_in a bc)
      (join-least (join-least (join_l a bc) (le_trans (join_l b c) (join_r a bc))) (le_trans (join_r b c) (join_r a bc)))
      (join-least (le_trans (join_l a b) (join_l ab c)) (join-least (le_trans (join_r a b) (join_l ab c)) (join_r ab c)))

  -- a level at or below another adds nothing to it
  pub join_above : (a b : ℕ) → a < levels → le b a ≡ true → join a b ≡ a
  join_above a b h below = le_antisym (join_in a b) h (join-least (le_refl a) below) (join_l a b)

  pub join_idem : (a : ℕ) → a < levels → join a a ≡ a
  join_idem a h = join_above a a h (le_refl a)

  pub join-bot : (a : ℕ) → a < levels → join bot a ≡ a
  join-bot a h = le_antisym (join_in bot a) h (join-least (bot-least a) (le_refl a)) (join_r bot a)

  pub not_top : (a : ℕ) → a < levels → a ≢ top → le top a ≡ false
  not_top a h d = is_false (le top a) (λ e. d (le_antisym h top_in (top-greatest a) e))
