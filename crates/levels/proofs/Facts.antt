-- What `right` says, as facts: rows pass exactly if they are an order with joins and, turned round, with joins again, and no row has a bit at
-- or past the count.
use Prim.Native.Nat.{ℕ, ◌^◌, ◌<◌, ◌≤◌}
use mathlib.Core.Path.{◌≡◌}
use mathlib.Core.Bool.{true}
use mathlib.Core.List.{List}
use borrow.Author.Tests.{ltb-true, leb-true, eqb-true, lt-ltb, le-leb, eq-eqb}
use Rattle.basis.proofs.Tests.{both, and_of_lem, apply_both, implies_both, all-at, all_of}
use Rattle.levels.specs.Levels.{count, row_at, below, reflexive, antisymmetric, transitive, is_join, joins, is_meet, meets, no_bit_past, right}
use Rattle.levels.proofs.Order.{turned, Order, turn}

module _ (s : List ℕ) where
  pub record Right : Type 0 where
    pub few : count s ≤ 16
    pub up : Order (count s) (below s)
    pub down : Order (count s) (turned (below s))
    pub within : (i : ℕ) → i < count s → row_at s i < 2 ^ count s

  pub facts : right s ≡ true → Right
  unfolding right reflexive antisymmetric transitive is_join joins is_meet meets no_bit_past
  facts h =
      let (h₆, past) = both _ _ h in
      let (h₅, meets) = both _ _ h₆ in
      let (h₄, joins) = both _ _ h₅ in
      let (h₃, through) = both _ _ h₄ in
      let (h₂, one) = both _ _ h₃ in
      let (h₁, itself) = both _ _ h₂ in
      let (some_level, few) = both _ _ h₁ in
      let up : Order (count s) (below s) = record {
        some_level = ltb-true _ _ some_level;
        itself = all-at _ _ itself;
        one = λ i j a b p q. eqb-true _ _ (apply_both _ _ _ (all-at _ _ (all-at _ _ one i a) j b) p q);
        through = λ i j k a b d. apply_both _ _ _ (all-at _ _ (all-at _ _ (all-at _ _ through i a) j b) k d);
        joins = λ i j a. all-at _ _ (all-at _ _ joins i a) j;
      } in
      record {
        few = leb-true _ _ few;
        up = up;
        down = turn _ _ up (λ i j a. all-at _ _ (all-at _ _ meets i a) j);
        within = λ i a. ltb-true _ _ (all-at _ _ past i a);
      }

  pub passes : Right → right s ≡ true
  unfolding right reflexive antisymmetric transitive is_join joins is_meet meets no_bit_past
  passes r =
      let n = count s in
      let o = r.up in
      let limits = and_of_lem (lt-ltb 0 n o.some_level) (le-leb n 16 r.few) in
      let itself = all_of n _ o.itself in
      let one = all_of n _ (λ i a. all_of n _ (λ j b. implies_both _ _ _ (λ p q. eq-eqb i j (o.one i j a b p q)))) in
      let through = all_of n _ (λ i a. all_of n _ (λ j b. all_of n _ (λ k d. implies_both _ _ _ (o.through i j k a b d)))) in
      let joins = all_of n _ (λ i a. all_of n _ (λ j. o.joins i j a)) in
      let meets = all_of n _ (λ i a. all_of n _ (λ j. r.down.joins i j a)) in
      let past = all_of n _ (λ i a. lt-ltb (row_at s i) (2 ^ n) (r.within i a)) in
      and_of_lem (and_of_lem (and_of_lem (and_of_lem (and_of_lem (and_of_lem limits itself) one) through) joins) meets) past
