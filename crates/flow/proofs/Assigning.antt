-- What an assignment comes to, case by case, once its unit is spent.
use Prim.Native.Nat.{ℕ, suc, ◌<◌}
use native.Mathlib.Decide.{ℕ_discrete}
use native.Mathlib.Omega.{arith}
use mathlib.Core.Path.{◌≡◌, sym, ap, ◌∙◌, fun_ext}
use mathlib.Core.List.{List}
use borrow.Author.Tests.{eqb-true, eqb-false}
use lib.Dec.{eqb}
use lib.ListN.{length, get_or, set, length-set}
use lib.Seq.{get_or-set_same, get_or-set_other}
use Rattle.basis.proofs.Tests.{split}
use Rattle.value.specs.declared.Value.{Value}
use Rattle.nodes.specs.Nodes.{kind_at, slot_at, kinds, held_in}
use Rattle.sheet.specs.Trees.{Exp, Cmd, assign, exp_at, cmd_at}
use Rattle.sheet.proofs.Trees.{held_there, cmd_at-assign}
use Rattle.rules.specs.Ends.{Why, Result, gives, stops, End, done, stopped, at, and_then, with, spend}
use Rattle.rules.specs.Rules.{Marking, put, eval, updated, exec}
use Rattle.store.specs.Cells.{Cell, cell, Store}
use Rattle.rules.proofs.Units.{assign_law}
use Rattle.marks.specs.Inside.Words.{blank, value_in, mark_in, cell_of, work_at, work_of, Goes, Stops, why_of, Stopped, Met}
use Rattle.marks.specs.declared.Cell.{Cell as Held}
use Rattle.marks.specs.declared.Run.{Run}
use Rattle.marks.specs.Inside.Meanings.{Meaning, meaning}
use Rattle.flow.specs.Inside.Tasks.{Ready, ExpIn, Evaluated, CmdIn, Assigned}
use Rattle.marks.proofs.Results.{goes_number, answer-gives, answer-stops}
use Rattle.flow.proofs.Ends.{or_next, or_stopped}

-- ── the cases of an assignment ──────────────────────────────────────────────────────────────

module _ {Mark Seen Context : Type 0} (𝓜 : Marking Mark Seen Context) (place : ℕ) (context : Context) where
  module _ (w v : Value) (old : Mark) (m : Seen) where
    updated-stops : (why : Why) (there : ℕ) → at place (𝓜.store place context old m) ≡ stops why there → updated 𝓜 place context (cell w old) (cell v m) ≡ stops why there
    unfolding updated and_then
    updated-stops why there e = rw e

    updated-gives : (k : Mark) → at place (𝓜.store place context old m) ≡ gives k → updated 𝓜 place context (cell w old) (cell v m) ≡ gives (cell v k)
    unfolding updated and_then
    updated-gives k e = rw e

  module _ (i : ℕ) (b : Exp) (σ : Store Mark) (left : ℕ) where
    abbrev ends : End Mark
    ends = exec 𝓜 (assign place i b) context σ (suc left)

    assign-stops : (why : Why) (there : ℕ) → eval 𝓜 b σ ≡ stops why there → ends ≡ stopped why there left
    unfolding spend with
    assign-stops why there e = assign_law 𝓜 place i b context σ (suc left) ∙ rw e

    module _ (x : Cell Seen) (value : eval 𝓜 b σ ≡ gives x) where
      assign-refused : (why : Why) (there : ℕ) → updated 𝓜 place context (σ i) x ≡ stops why there → ends ≡ stopped why there left
      unfolding spend with
      assign-refused why there e = assign_law 𝓜 place i b context σ (suc left) ∙ rw (value, e)

      assign-done : (k : Cell Mark) → updated 𝓜 place context (σ i) x ≡ gives k → ends ≡ done (put i k σ) left
      unfolding spend with
      assign-done k e = assign_law 𝓜 place i b context σ (suc left) ∙ rw (value, e)

-- ── a field's new cell ──────────────────────────────────────────────────────────────────────

module _ {Mark : Type 0} (of : ℕ → Mark) (work : List Held) (i : ℕ) (held : Held) (inside : i < length work) where
  work_at_set : (j : ℕ) → work_of of (set work i held) j ≡ put i (cell_of of held) (work_of of work) j
  unfolding work_at put
  work_at_set j = split (eqb i j)
      (λ e. let here : j ≡ i = sym (eqb-true i j e) in rw e (ap (cell_of of) (rw here (get_or-set_same work i held blank inside))))
      (λ e. rw e (ap (cell_of of) (get_or-set_other work i j held blank (λ here. eqb-false i j e (sym here)))))

  work_set : work_of of (set work i held) ≡ put i (cell_of of held) (work_of of work)
  work_set = fun_ext work_at_set

-- a cell with a known mark leaves the work store ready
ready-set : {run : Run} {work : List Held} {i : ℕ} (held : Held) → Ready run work → i < 64 → (meaning run).KnownMark held.mark → Ready run (set work i held)
ready-set {run} {work} {i} held p inside known = record {
  askable = p.askable;
  fields = p.fields;
  few-fields = p.few-fields;
  formed = p.formed;
  few-nodes = p.few-nodes;
  long = length-set work i held ∙ p.long;
  words = λ j. at_field j (ℕ_discrete j i);
}
  where
    at_field : (j : ℕ) → Dec (j ≡ i) → (meaning run).KnownMark (get_or (set work i held) j blank).mark
    at_field j (yes e) = rw (e, get_or-set_same work i held blank (rw p.long inside)) known
    at_field j (no e) = rw (get_or-set_other work i j held blank e) (p.words j)

-- ── the assignment at a node ────────────────────────────────────────────────────────────────

module _ {run : Run} {work : List Held} {n context : ℕ} (p : CmdIn run work n context) (kind : kind_at run.parts.nodes.now n ≡ 6) where
  abbrev 𝓢 : Meaning
  𝓢 = meaning run

  abbrev field : ℕ
  field = slot_at run.parts.nodes.now n 0

  abbrev source : ℕ
  source = slot_at run.parts.nodes.now n 1

  -- the field is there, and the expression is worked out on the same work store
  field_there : field < p.ready.fields
  unfolding held_in kinds
  field_there = held_there p.ready.formed n p.inside 6 0 kind (omega arith)

  pub field-few : field < 64
  field-few =
      let there = field_there in
      let few = p.ready.few-fields in
      omega arith

  pub field-known : 𝓢.KnownMark (get_or work field blank).mark
  field-known = p.ready.words field

  pub source_in : ExpIn run work source
  unfolding held_in kinds
  source_in =
      let below = held_there p.ready.formed n p.inside 6 1 kind (omega arith) in
      let lower : source < n = below.lower in
      let inside = p.inside in
      record { ready = p.ready; inside = omega arith; sort = below.sort }

  at-node : (fuel : ℕ) → exec 𝓢.marking (cmd_at run.parts.constants.now run.parts.nodes.now n) (𝓢.context_of context) (work_of 𝓢.mark_of work) fuel
      ≡ exec 𝓢.marking (assign n field (exp_at run.parts.constants.now run.parts.nodes.now source)) (𝓢.context_of context) (work_of 𝓢.mark_of work) fuel
  at-node fuel =
      ap (λ (k : Cmd). exec 𝓢.marking k (𝓢.context_of context) (work_of 𝓢.mark_of work) fuel)
      (cmd_at-assign run.parts.constants.now p.ready.formed n p.inside kind)

  module _ {x : ℕ} (evaluated : Evaluated run work source x) where
    -- the expression stops
    pub assigned_stops : Stops x → Assigned run work n context work x
    assigned_stops large = record {
      is = λ left. or_stopped x left _ large ∙ sym (at-node (suc left) ∙ assign-stops 𝓢.marking _ _ _ _ _ left _ _ (answer-stops evaluated large));
      ready = p.ready;
      number = evaluated.number;
    }

    module _ (goes : Goes x) where
      abbrev left_there : Result 𝓢.Mark
      left_there = at n (𝓢.marking.store n (𝓢.context_of context) (𝓢.mark_of (get_or work field blank).mark) (𝓢.seen_of (mark_in x)))

      -- the mark is refused
      pub assigned_refused : {number place : ℕ} → Met number × (left_there ≡ stops (why_of number) place) → {r : ℕ} → Stopped number place 0 r → Assigned run work n context work r
      unfolding work_at
      assigned_refused refused {r} made =
          let update = updated-stops 𝓢.marking n (𝓢.context_of context) (get_or work field blank).value (value_in x) _ _ _ _ refused.1 in
          record {
            is = λ left. or_stopped r left _ made.stops ∙ rw (made.number_is, made.place_is)
                (sym (at-node (suc left) ∙ assign-refused 𝓢.marking _ _ field _ (work_of 𝓢.mark_of work) left _ (answer-gives evaluated goes) _ _ update));
            ready = p.ready;
            number = λ _. rw made.number_is refused.0;
          }

      -- the field has its new cell
      pub assigned_done : (k : ℕ) → 𝓢.KnownMark k × (left_there ≡ gives (𝓢.mark_of k)) → Assigned run work n context (set work field record { value = value_in x; mark = k }) 0
      unfolding work_at
      assigned_done k stored =
          let held : Held = record { value = value_in x; mark = k } in
          let inside : field < length work = rw p.ready.long field-few in
          let update = updated-gives 𝓢.marking n (𝓢.context_of context) (get_or work field blank).value (value_in x) _ _ _ stored.1 in
          record {
            is = λ left. or_next 0 left _ (omega arith)
                ∙ ap (λ (τ : Store 𝓢.Mark). done τ left) (work_set 𝓢.mark_of work field held inside)
                ∙ sym (at-node (suc left) ∙ assign-done 𝓢.marking _ _ field _ (work_of 𝓢.mark_of work) left _ (answer-gives evaluated goes) _ update);
            ready = ready-set held p.ready field-few stored.0;
            number = goes_number 0 (omega arith);
          }
