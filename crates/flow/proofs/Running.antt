-- How a run of commands goes on: what is still to do gives what the whole command gives.
use Prim.Native.Nat.{ℕ, zero, suc, ◌-◌, ◌≤◌, ◌<◌}
use native.Mathlib.Omega.{arith}
use mathlib.Core.Path.{◌≡◌, refl, sym, ◌∙◌}
use mathlib.Core.Bool.{Bool, true, false}
use mathlib.Core.List.{List}
use borrow.Author.Tests.{eqb-true, eqb-false}
use lib.Dec.{eqb}
use mir.Val.{bool_byte}
use Rattle.basis.proofs.Tests.{split}
use Rattle.basis.specs.Numbers as numbers
use Rattle.value.specs.Values.{is_true}
use Rattle.nodes.specs.Nodes.{kind_at, slot_at, kinds, held_in}
use Rattle.nodes.specs.Inside.Formed.{CmdBelow}
use Rattle.sheet.specs.Trees.{exp_at, cmd_at}
use Rattle.sheet.proofs.Trees.{held_there, cmd_at-skip, cmd_at-assign, cmd_at-sequence, cmd_at_if, cmd_at-while}
use Rattle.store.specs.Cells.{Store}
use Rattle.rules.specs.Ends.{End, done, spent, spend, bind}
use Rattle.rules.specs.Rules.{tested, exec}
use Rattle.rules.proofs.Units.{skip_law, assign_law, sequence_law, if_law, while_law, units_done}
use Rattle.marks.specs.Inside.Words.{upper_half, Half, Place, value_in, mark_in, work_of, Goes, Stops, left_in, place_in, number_in, Stopped}
use Rattle.marks.specs.declared.Cell.{Cell as Held}
use Rattle.marks.specs.declared.Run.{Run}
use Rattle.marks.specs.Inside.Meanings.{Meaning, meaning}
use Rattle.flow.specs.Inside.Tasks.{Ready, test_of, stop_of, end_of, Told, CmdIn, Tested, Assigned, Ran}
use Rattle.flow.proofs.Ends.{end_done, end_stop, end_left, or_next, or_stopped, test_stopped, test_yes, test_no, stop_spent, told-spent, stop_handed, told_handed}

-- nothing follows a stop
stop_bind : {Mark : Type 0} (w : ℕ) (next : Store Mark → ℕ → End Mark) → bind (stop_of w) next ≡ stop_of w
unfolding bind stop_of
stop_bind w next = split (eqb (number_in w) numbers.fuel_spent) (λ h. rw h) (λ h. rw h)

bind_end : {Mark : Type 0} (x : End Mark) (w : ℕ) (σ : Store Mark) (next : Store Mark → ℕ → End Mark) → end_of w σ ≡ x → Goes w → bind x next ≡ next σ (left_in w)
unfolding bind
bind_end x w σ next e h = rw (← e, end_done w σ h)

bind_stop : {Mark : Type 0} (x : End Mark) (w : ℕ) (σ : Store Mark) (next : Store Mark → ℕ → End Mark) → end_of w σ ≡ x → Stops w → bind x next ≡ stop_of w
bind_stop x w σ next e h = rw (← e, end_stop w σ h) (stop_bind w next)

-- ── what is still to do ─────────────────────────────────────────────────────────────────────

-- a child is a command of the same run
pub child : {run : Run} {work : List Held} {n m context next : ℕ} → CmdIn run work n context → CmdBelow run.parts.nodes.now n m → (meaning run).KnownContext next → CmdIn run work m next
child p below known =
    let inside = p.inside in
    let lower = below.lower in
    record { ready = p.ready; inside = omega arith; sort = below.least; context-known = known }

-- no part leaves more fuel than it was given
pub fuel-left : {run : Run} {work after : List Held} {n context l r : ℕ} → Ran run work n context l after r → Goes r → left_in r ≤ l
fuel-left {run} {work} {after} {n} {context} {l} {r} p h = units_done _ _ _ _ l _ (left_in r) (sym p.is ∙ end_done r _ h)

module _ (run : Run) (before : List Held) (first start fuel : ℕ) where
  abbrev nodes : List ℕ
  nodes = run.parts.nodes.now

  abbrev constants : List ℕ
  constants = run.parts.constants.now

  -- what the numbers of this run mean
  abbrev 𝓢 : Meaning
  𝓢 = meaning run

  abbrev of_context : ℕ → 𝓢.Context
  of_context context = 𝓢.context_of context

  abbrev of_work : List Held → Store 𝓢.Mark
  of_work work = work_of 𝓢.mark_of work

  abbrev to_do : ℕ → 𝓢.Context → Store 𝓢.Mark → ℕ → End 𝓢.Mark
  to_do n = exec 𝓢.marking (cmd_at constants nodes n)

  pub record Going (work : List Held) (n context left : ℕ) : Type 0 where
    pub is : to_do n (of_context context) (of_work work) left ≡ to_do first (of_context start) (of_work before) fuel
    pub command : CmdIn run work n context
    pub lower : n ≤ first
    pub few : left ≤ upper_half

  pub starts : CmdIn run before first start → fuel ≤ upper_half → Going before first start fuel
  starts p h = record { is = refl; command = p; lower = omega arith; few = h }

  module _ {work : List Held} {n context left : ℕ} (g : Going work n context left) where
    abbrev rest : End 𝓢.Mark
    rest = to_do n (of_context context) (of_work work) left

    pub node-few : Place n
    node-few =
        let few = g.command.ready.few-nodes in
        let inside = g.command.inside in
        omega arith

    -- what ends what is to do ends the run
    ends : {after : List Held} {r : ℕ} → end_of r (of_work after) ≡ rest → Ready run after → (Stops r → Told r)
        → Ran run before first start fuel after r
    ends e ready told = record { is = e ∙ g.is; ready = ready; told = told }

    -- the same command on the work store that a part left
    moved : {after : List Held} {m next l r : ℕ} → Ran run work m next l after r → CmdIn run after n context
    moved p = record { ready = p.ready; inside = g.command.inside; sort = g.command.sort; context-known = g.command.context-known }

    -- going on at a child
    on : {after : List Held} {m next l : ℕ} → CmdIn run after n context → CmdBelow nodes n m → 𝓢.KnownContext next → to_do m (of_context next) (of_work after) l ≡ rest → l ≤ upper_half
        → Going after m next l
    on p below known e small =
        let less = below.lower in
        let lower = g.lower in
        record { is = e ∙ g.is; command = child p below known; lower = omega arith; few = small }

    -- ── what each command runs as ──
    skip_is : kind_at nodes n ≡ 5 → rest ≡ spend n left (λ l. done (of_work work) l)
    skip_is kind = rw (cmd_at-skip constants g.command.ready.formed n g.command.inside kind) (skip_law _ _ _ _ _)

    sequence-is : kind_at nodes n ≡ 7 → rest ≡ bind (to_do (slot_at nodes n 0) (of_context context) (of_work work) left) (to_do (slot_at nodes n 1) (of_context context))
    sequence-is kind = rw (cmd_at-sequence constants g.command.ready.formed n g.command.inside kind) (sequence_law _ _ _ _ _ _)

    abbrev by_test : (𝓢.Context → ℕ → End 𝓢.Mark) → (𝓢.Context → ℕ → End 𝓢.Mark) → End 𝓢.Mark
    by_test = tested 𝓢.marking n (exp_at constants nodes (slot_at nodes n 0)) (of_context context) (of_work work) left

    if_is : kind_at nodes n ≡ 8 → rest ≡ by_test (λ c l. to_do (slot_at nodes n 1) c (of_work work) l) (λ c l. to_do (slot_at nodes n 2) c (of_work work) l)
    if_is kind = rw (cmd_at_if constants g.command.ready.formed n g.command.inside kind) (if_law _ _ _ _ _ _ _ _)

    while-is : kind_at nodes n ≡ 9 → rest ≡ by_test (λ c l. bind (to_do (slot_at nodes n 1) c (of_work work) l) (to_do n c)) (λ c l. done (of_work work) l)
    while-is kind = rw (cmd_at-while constants g.command.ready.formed n g.command.inside kind) (while_law _ _ _ _ _ _ _)

    -- ── a sequence ──
    module _ (kind : kind_at nodes n ≡ 7) where
      pub turn_below : (k : ℕ) → k < 2 → CmdBelow nodes n (slot_at nodes n k)
      unfolding held_in kinds
      turn_below zero h = held_there g.command.ready.formed _ g.command.inside 7 0 kind (omega arith)
      turn_below (suc zero) h = held_there g.command.ready.formed _ g.command.inside 7 1 kind (omega arith)
      turn_below (suc (suc k)) h = absurd (omega arith)

      module _ {after : List Held} {r : ℕ} (p : Ran run work (slot_at nodes n 0) context left after r) where
        -- the first command stops, and so does the run
        pub first_stops : Stops r → Ran run before first start fuel after r
        first_stops h = ends (end_stop r (of_work after) h ∙ sym (sequence-is kind ∙ bind_stop _ r (of_work after) _ p.is h)) p.ready p.told

        -- the second goes on from there
        pub second_next : Goes r → Going after (slot_at nodes n 1) context (left_in r)
        second_next h = on (moved p) (turn_below 1 (omega arith)) g.command.context-known
            (sym (sequence-is kind ∙ bind_end _ r (of_work after) _ p.is h)) (omega arith)

    -- ── no fuel ──
    spent-is : (kind_at nodes n ≡ 7 → ⊥) → left ≡ 0 → rest ≡ spent n
    unfolding spend tested
    spent-is other none =
        let least = g.command.sort in
        let most = g.command.ready.formed.kind _ g.command.inside in
        split (eqb (kind_at nodes n) 5) (λ e. skip_is (eqb-true _ _ e) ∙ rw none)
        (λ not_5. split (eqb (kind_at nodes n) 6)
        (λ e. rw (cmd_at-assign constants g.command.ready.formed n g.command.inside (eqb-true _ _ e)) (assign_law _ _ _ _ _ _ _ ∙ rw none))
        (λ not_6. split (eqb (kind_at nodes n) 8) (λ e. if_is (eqb-true _ _ e) ∙ rw none)
        (λ not_8. while-is (omega (arith, other, eqb-false (kind_at nodes n) 5 not_5, eqb-false (kind_at nodes n) 6 not_6, eqb-false (kind_at nodes n) 8 not_8)) ∙ rw none)))

    pub run-spent : (kind_at nodes n ≡ 7 → ⊥) → left ≡ 0 → {r : ℕ} → Stopped numbers.fuel_spent n 0 r → Ran run before first start fuel work r
    run-spent other none {r} s =
        ends (end_stop r (of_work work) s.stops ∙ stop_spent s ∙ sym (spent-is other none)) g.command.ready (λ _. told-spent s)

    -- ── once the unit is spent ──
    module _ {l : ℕ} (some : left ≡ suc l) where
      left-few : Half l
      left-few =
          let few = g.few in
          omega arith

      -- the fuel left is all there is to tell
      ends-left : {after : List Held} → done (of_work after) l ≡ rest → Ready run after → Ran run before first start fuel after l
      ends-left e ready = ends (end_left l _ left-few ∙ e) ready (λ large. absurd (omega (arith, left-few)))

      -- a command that ends the run
      pub at_last : {after : List Held} {r : ℕ} → Ran run work n context (suc l) after r → Ran run before first start fuel after r
      at_last p = ends (rw some p.is) p.ready p.told

      pub skip-done : kind_at nodes n ≡ 5 → Ran run before first start fuel work l
      unfolding spend
      skip-done kind = ends-left (sym (skip_is kind ∙ rw some)) g.command.ready

      -- ── an assignment ──
      module _ {after : List Held} {x : ℕ} (p : Assigned run work n context after x) where
        pub assign-stops : Stops x → {r : ℕ} → Stopped (number_in x) (place_in x) l r → Ran run before first start fuel after r
        assign-stops large {r} s =
            ends (end_stop r (of_work after) s.stops ∙ stop_handed s large p.number
            ∙ sym (or_stopped x l (done (of_work after) l) large) ∙ rw some (p.is l))
            p.ready (λ _. told_handed s large p.number)

        pub assign-done : Goes x → Ran run before first start fuel after l
        assign-done low = ends-left (sym (or_next x l _ low) ∙ rw some (p.is l)) p.ready

      -- ── a test ──
      module _ {x : ℕ} (p : Tested run work n context x) where
        by_word : (yes_side no_side : 𝓢.Context → ℕ → End 𝓢.Mark) → test_of 𝓢.context_of x l yes_side no_side ≡ by_test yes_side no_side
        by_word yes_side no_side = rw some (p.is l yes_side no_side)

        -- the test stops, and so does the run
        pub test_stops : 8 ≤ kind_at nodes n → Stops x → {r : ℕ} → Stopped (number_in x) (place_in x) l r → Ran run before first start fuel work r
        test_stops k large {r} s =
            let known = g.command.ready.formed.kind _ g.command.inside in
            ends (end_stop r (of_work work) s.stops ∙ stop_handed s large p.number ∙ split (eqb (kind_at nodes n) 8)
            (λ e. sym (test_stopped _ x l _ _ large) ∙ by_word _ _ ∙ sym (if_is (eqb-true _ _ e)))
            (λ e. sym (test_stopped _ x l _ _ large) ∙ by_word _ _ ∙ sym (while-is (omega (arith, eqb-false (kind_at nodes n) 8 e)))))
            g.command.ready (λ _. told_handed s large p.number)

        module _ (low : Goes x) where
          -- the side that an if takes
          module _ (kind : kind_at nodes n ≡ 8) where
            pub side_below : (b : Bool) → CmdBelow nodes n (slot_at nodes n (2 - bool_byte b))
            unfolding held_in kinds
            side_below true = held_there g.command.ready.formed _ g.command.inside 8 1 kind (omega arith)
            side_below false = held_there g.command.ready.formed _ g.command.inside 8 2 kind (omega arith)

            side : (b : Bool) → is_true (value_in x) ≡ b → to_do (slot_at nodes n (2 - bool_byte b)) (of_context (mark_in x)) (of_work work) l ≡ rest
            side true e = sym (test_yes _ x l _ _ low e) ∙ by_word _ _ ∙ sym (if_is kind)
            side false e = sym (test_no _ x l _ _ low e) ∙ by_word _ _ ∙ sym (if_is kind)

            pub side_next : (b : Bool) → is_true (value_in x) ≡ b → Going work (slot_at nodes n (2 - bool_byte b)) (mark_in x) l
            side_next b e = on g.command (side_below b) (p.context-known low) (side b e) (omega (arith, left-few))

          module _ (kind : kind_at nodes n ≡ 9) where
            -- a while whose test does not hold is done
            pub while-done : is_true (value_in x) ≡ false → Ran run before first start fuel work l
            while-done e = ends-left (sym (test_no _ x l _ _ low e) ∙ by_word _ _ ∙ sym (while-is kind)) g.command.ready

            pub body_below : CmdBelow nodes n (slot_at nodes n 1)
            unfolding held_in kinds
            body_below = held_there g.command.ready.formed _ g.command.inside 9 1 kind (omega arith)

            module _ {after : List Held} {w : ℕ} (holds : is_true (value_in x) ≡ true) (q : Ran run work (slot_at nodes n 1) (mark_in x) l after w) where
              round : bind (to_do (slot_at nodes n 1) (of_context (mark_in x)) (of_work work) l) (to_do n (of_context (mark_in x))) ≡ rest
              round = sym (test_yes _ x l _ _ low holds) ∙ by_word _ _ ∙ sym (while-is kind)

              -- a round that stops, and the next one, in the joined context
              pub round_stops : Stops w → Ran run before first start fuel after w
              round_stops k = ends (end_stop w (of_work after) k ∙ sym (bind_stop _ w (of_work after) _ q.is k) ∙ round) q.ready q.told

              pub round_next : Goes w → Going after n (mark_in x) (left_in w)
              round_next k = record {
                is = sym (bind_end _ w (of_work after) _ q.is k) ∙ round ∙ g.is;
                command = record { ready = q.ready; inside = g.command.inside; sort = g.command.sort; context-known = p.context-known low };
                lower = g.lower;
                few = omega arith;
              }
