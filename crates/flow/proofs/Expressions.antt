-- What expressions give, step by step, and the words that answer for it, whatever the numbers of marks mean.
use Prim.Native.Nat.{ℕ, zero, suc, ◌≤◌, ◌<◌}
use native.Mathlib.Omega.{arith}
use mathlib.Core.Path.{◌≡◌, refl, sym, ap, ap₂, ◌∙◌}
use mathlib.Core.List.{List}
use lib.IntN.{ℤ}
use lib.ListN.{get_or}
use Rattle.std.specs.Prelude.{Ok, Err}
use Rattle.basis.specs.Numbers as numbers
use Rattle.value.specs.Values.{operator_of, not_of}
use Rattle.value.specs.declared.Value.{Value}
use Rattle.value.specs.declared.ArithmeticError.TheVariants.{OutOfRange, DivisorZero}
use Rattle.nodes.specs.Nodes.{In, kind_at, op_at, slot_at, kinds, held_in}
use Rattle.nodes.specs.Inside.Formed.{ExpBelow, WellFormed}
use Rattle.sheet.specs.Trees.{constant_at, exp_at}
use Rattle.sheet.proofs.Trees.{held_there, exp_at-constant, exp_at-field, exp_at-operator, exp_at-not, exp_at-seal}
use Rattle.rules.specs.Ends.{Why, out_of_range, divisor_zero, Result, gives, stops, at, and_then}
use Rattle.rules.specs.Rules.{Marking, computed, reading, operated, inverted, sealing, eval}
use Rattle.store.specs.Cells.{Cell, cell, Store}
use Rattle.marks.specs.Inside.Words.{blank, value_in, mark_in, cell_in, work_at, work_of, Holds, Goes, Stops, why_of, Stopped}
use Rattle.marks.specs.declared.Cell.{Cell as Held}
use Rattle.marks.specs.declared.Run.{Run}
use Rattle.marks.specs.Inside.Meanings.{Meaning, meaning, Sees, Constant, Sealed, Read, Joined}
use Rattle.flow.specs.Inside.Tasks.{ExpIn, Evaluated, Operated}
use Rattle.marks.proofs.Results.{answers_gives, answers_stops, answer-gives, hands_on}

-- an operator on two values: a value with the joined mark, or a stop at its node
module _ {Mark Seen Context : Type 0} (𝓜 : Marking Mark Seen Context) (place op : ℕ) (v w : Value) (m k : Seen) where
  operated-is : (u : Value) → operator_of op v w ≡ Ok u → operated 𝓜 place op (cell v m) (cell w k) ≡ gives (cell u (𝓜.join m k))
  unfolding operated at and_then computed
  operated-is u e = rw e

  operated_range : (z : ℤ) → operator_of op v w ≡ Err (OutOfRange z) → operated 𝓜 place op (cell v m) (cell w k) ≡ stops out_of_range place
  unfolding operated at and_then computed
  operated_range z e = rw e

  operated_zero : operator_of op v w ≡ Err DivisorZero → operated 𝓜 place op (cell v m) (cell w k) ≡ stops divisor_zero place
  unfolding operated at and_then computed
  operated_zero e = rw e

-- ── the expression at a node ────────────────────────────────────────────────────────────────

-- an operator, a not, a seal
three : (k : ℕ) (P : ℕ → Type 0) → 2 ≤ k → k ≤ 4 → (k ≡ 2 → P k) → (k ≡ 3 → P k) → (k ≡ 4 → P k) → P k
three zero P g h x y z = absurd (omega arith)
three (suc zero) P g h x y z = absurd (omega arith)
three (suc (suc zero)) P g h x y z = x refl
three (suc (suc (suc zero))) P g h x y z = y refl
three (suc (suc (suc (suc zero)))) P g h x y z = z refl
three (suc (suc (suc (suc (suc k))))) P g h x y z = absurd (omega arith)

module _ {Mark Seen Context : Type 0} (𝓜 : Marking Mark Seen Context) (values : List ℕ) {s : List ℕ} {fields constants : ℕ} (nodes : WellFormed s fields constants)
    (n : ℕ) (i : In s n) (σ : Store Mark) where
  abbrev given : ℕ → Result (Cell Seen)
  given w = eval 𝓜 (exp_at values s w) σ

  pub eval-constant : kind_at s n ≡ 0 → given n ≡ gives (cell (constant_at values (slot_at s n 0)) 𝓜.constant)
  unfolding eval
  eval-constant h = rw (exp_at-constant values nodes n i h)

  pub eval-field : kind_at s n ≡ 1 → given n ≡ gives (reading 𝓜 (slot_at s n 0) (σ (slot_at s n 0)))
  unfolding eval
  eval-field h = rw (exp_at-field values nodes n i h)

  eval-operator : kind_at s n ≡ 2 → given n ≡ and_then (given (slot_at s n 0)) (λ x. and_then (given (slot_at s n 1)) (operated 𝓜 n (op_at s n) x))
  unfolding eval
  eval-operator h = rw (exp_at-operator values nodes n i h)

  eval_not : kind_at s n ≡ 3 → given n ≡ and_then (given (slot_at s n 0)) (λ x. gives (inverted 𝓜 x))
  unfolding eval
  eval_not h = rw (exp_at-not values nodes n i h)

  eval-seal : kind_at s n ≡ 4 → given n ≡ and_then (given (slot_at s n 0)) (λ x. gives (sealing 𝓜 x))
  unfolding eval
  eval-seal h = rw (exp_at-seal values nodes n i h)

  -- the first stop met is the one told
  pub left-stops : (why : Why) (place : ℕ) → 2 ≤ kind_at s n → kind_at s n ≤ 4 → given (slot_at s n 0) ≡ stops why place → given n ≡ stops why place
  unfolding and_then
  left-stops why place g h e =
      three (kind_at s n) (λ k. given n ≡ stops why place) g h
      (λ k. eval-operator k ∙ rw e) (λ k. eval_not k ∙ rw e) (λ k. eval-seal k ∙ rw e)

  module _ (v : Value) (m : Seen) (left : given (slot_at s n 0) ≡ gives (cell v m)) where
    pub not_gives : kind_at s n ≡ 3 → given n ≡ gives (cell (not_of v) m)
    unfolding and_then inverted
    not_gives h = eval_not h ∙ rw left

    pub seal-gives : kind_at s n ≡ 4 → given n ≡ gives (cell v 𝓜.sealed)
    unfolding and_then sealing
    seal-gives h = eval-seal h ∙ rw left

    pub right-stops : (why : Why) (place : ℕ) → kind_at s n ≡ 2 → given (slot_at s n 1) ≡ stops why place → given n ≡ stops why place
    unfolding and_then
    right-stops why place h e = eval-operator h ∙ rw (left, e)

    pub both_give : (w : Value) (k : Seen) → kind_at s n ≡ 2 → given (slot_at s n 1) ≡ gives (cell w k) → given n ≡ operated 𝓜 n (op_at s n) (cell v m) (cell w k)
    unfolding and_then
    both_give w k h e = eval-operator h ∙ rw (left, e)

-- ── children ────────────────────────────────────────────────────────────────────────────────

-- a field that a node names is there
pub held_field : {s : List ℕ} {fields constants : ℕ} → WellFormed s fields constants → (n : ℕ) → In s n → kind_at s n ≡ 1 → slot_at s n 0 < fields
unfolding held_in kinds
held_field nodes n i k = held_there nodes n i 1 0 k (omega arith)

-- the left child, and the right one of an operator, are lower expressions
pub left_below : {s : List ℕ} {fields constants : ℕ} → WellFormed s fields constants → (n : ℕ) → In s n → 2 ≤ kind_at s n → kind_at s n ≤ 4 → ExpBelow s n (slot_at s n 0)
unfolding held_in kinds
left_below {s} nodes n i g h =
    three (kind_at s n) (λ k. ExpBelow s n (slot_at s n 0)) g h
    (λ k. held_there nodes n i 2 0 k (omega arith)) (λ k. held_there nodes n i 3 0 k (omega arith)) (λ k. held_there nodes n i 4 0 k (omega arith))

pub right-below : {s : List ℕ} {fields constants : ℕ} → WellFormed s fields constants → (n : ℕ) → In s n → kind_at s n ≡ 2 → ExpBelow s n (slot_at s n 1)
unfolding held_in kinds
right-below nodes n i k = held_there nodes n i 2 1 k (omega arith)

-- a lower expression is worked out on the same store
pub child_in_lem : {run : Run} {work : List Held} {n w : ℕ} → ExpIn run work n → ExpBelow run.parts.nodes.now n w
    → (w < n) × ExpIn run work w
child_in_lem p below =
    let inside = p.inside in
    let lower = below.lower in
    (lower, record { ready = p.ready; inside = omega arith; sort = below.sort })

-- ── the word that answers for a node ────────────────────────────────────────────────────────

-- a word made of a value and the number of a seen mark
module _ (𝓢 : Meaning) {v : Value} {s : 𝓢.Seen} {mark r : ℕ} (made : Holds v mark r) (sees : Sees 𝓢 s mark) where
  seen_goes : Goes r
  seen_goes = omega (arith, made.mark-is, sees.few)

  seen-cell : cell v s ≡ cell_in 𝓢.seen_of r
  seen-cell = sym (ap₂ cell made.value (ap 𝓢.seen_of made.mark-is ∙ sees.is))

  seen-known : 𝓢.KnownSeen (mark_in r)
  seen-known = rw made.mark-is sees.known

-- an operator's word, on the values in two words
module _ (run : Run) (n left right : ℕ) where
  abbrev 𝓞 : Meaning
  𝓞 = meaning run

  abbrev op : ℕ
  op = op_at run.parts.nodes.now n

  abbrev seen : ℕ → 𝓞.Seen
  seen w = 𝓞.seen_of (mark_in w)

  pub operated_word : {u : Value} {mark r : ℕ} → operator_of op (value_in left) (value_in right) ≡ Ok u → Joined 𝓞 (mark_in left) (mark_in right) mark → Holds u mark r
      → Operated run n left right r
  operated_word {u} {mark} {r} e sees made =
      answers_gives (seen_goes 𝓞 made sees)
      (operated-is 𝓞.marking n op (value_in left) (value_in right) (seen left) (seen right) u e ∙ ap gives (seen-cell 𝓞 made sees)) (seen-known 𝓞 made sees)

  pub range_word : {z : ℤ} {l r : ℕ} → operator_of op (value_in left) (value_in right) ≡ Err (OutOfRange z) → Stopped numbers.out_of_range n l r → Operated run n left right r
  unfolding why_of
  range_word {z} {l} {r} e s =
      answers_stops s (omega arith, omega arith) (operated_range 𝓞.marking n op (value_in left) (value_in right) (seen left) (seen right) z e)

  pub zero_word : {l r : ℕ} → operator_of op (value_in left) (value_in right) ≡ Err DivisorZero → Stopped numbers.divisor_zero n l r → Operated run n left right r
  unfolding why_of
  zero_word {l} {r} e s =
      answers_stops s (omega arith, omega arith) (operated_zero 𝓞.marking n op (value_in left) (value_in right) (seen left) (seen right) e)

module _ {run : Run} {work : List Held} {n : ℕ} (p : ExpIn run work n) where
  abbrev 𝓢 : Meaning
  𝓢 = meaning run

  abbrev kind : ℕ
  kind = kind_at run.parts.nodes.now n

  abbrev child : ℕ → ℕ
  child k = slot_at run.parts.nodes.now n k

  abbrev result : ℕ → Result (Cell 𝓢.Seen)
  result w = eval 𝓢.marking (exp_at run.parts.constants.now run.parts.nodes.now w) (work_of 𝓢.mark_of work)

  -- the word of a value
  seen_word : {r : ℕ} {v : Value} {mark : ℕ} {s : 𝓢.Seen} → Holds v mark r → Sees 𝓢 s mark → result n ≡ gives (cell v s) → Evaluated run work n r
  seen_word made sees e = answers_gives (seen_goes 𝓢 made sees) (e ∙ ap gives (seen-cell 𝓢 made sees)) (seen-known 𝓢 made sees)

  -- a constant, and a field
  pub constant_word : {r a : ℕ} {v : Value} {mark : ℕ} → kind ≡ 0 → a ≡ child 0 → v ≡ constant_at run.parts.constants.now a → Constant 𝓢 mark → Holds v mark r
      → Evaluated run work n r × Goes r
  constant_word {r} {a} {v} {mark} k is value sees made = (
    seen_word made sees
        (eval-constant 𝓢.marking _ p.ready.formed _ p.inside _ k
        ∙ sym (ap (λ (v : Value). gives (cell v 𝓢.marking.constant)) (value ∙ ap (constant_at run.parts.constants.now) is))),
    seen_goes 𝓢 made sees,
  )

  pub field_word : {r a mark : ℕ} → kind ≡ 1 → a ≡ child 0 → Read 𝓢 a (get_or work a blank).mark mark → Holds (get_or work a blank).value mark r
      → Evaluated run work n r × Goes r
  unfolding work_at reading
  field_word {r} {a} {mark} k is sees made = (
    seen_word made sees
        (eval-field 𝓢.marking _ p.ready.formed _ p.inside _ k
        ∙ rw is),
    seen_goes 𝓢 made sees,
  )

  -- a stop is handed on
  pub left_stop_word : {r : ℕ} → 2 ≤ kind → Evaluated run work (child 0) r → Stops r → Evaluated run work n r
  left_stop_word k left large = hands_on left large (λ why place. left-stops 𝓢.marking _ p.ready.formed _ p.inside _ why place k p.sort)

  module _ {l : ℕ} (left : Evaluated run work (child 0) l) (goes : Goes l) where
    pub not_word : {r : ℕ} {v : Value} {mark : ℕ} → kind ≡ 3 → v ≡ not_of (value_in l) → mark ≡ mark_in l → Holds v mark r → Evaluated run work n r
    not_word {r} {v} {mark} k value is made =
        seen_word made (record { is = ap 𝓢.seen_of is; known = rw is (left.known goes); few = omega arith })
        (not_gives 𝓢.marking _ p.ready.formed _ p.inside _ _ _ (answer-gives left goes) k
        ∙ sym (ap (λ (v : Value). gives (cell v (𝓢.seen_of (mark_in l)))) value))

    pub seal_word : {r : ℕ} {v : Value} {mark : ℕ} → kind ≡ 4 → v ≡ value_in l → Sealed 𝓢 mark → Holds v mark r → Evaluated run work n r
    seal_word {r} {v} {mark} k value sees made =
        seen_word made sees
        (seal-gives 𝓢.marking _ p.ready.formed _ p.inside _ _ _ (answer-gives left goes) k
        ∙ sym (ap (λ (v : Value). gives (cell v 𝓢.marking.sealed)) value))

    module _ (k : kind ≡ 2) {r : ℕ} (right : Evaluated run work (child 1) r) where
      pub right_stop_word : Stops r → Evaluated run work n r
      right_stop_word large =
          hands_on right large (λ why place. right-stops 𝓢.marking _ p.ready.formed _ p.inside _ _ _ (answer-gives left goes) why place k)

      pub operator_word : Goes r → {word : ℕ} → Operated run n l r word → Evaluated run work n word
      operator_word h operated = record {
        is = operated.is ∙ sym (both_give 𝓢.marking _ p.ready.formed _ p.inside _ _ _ (answer-gives left goes) _ _ k (answer-gives right h));
        known = operated.known;
        number = operated.number;
      }
