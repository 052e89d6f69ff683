-- The parts are the sheet's sections, the work store reads as the store, and the word of the run says which return is right.
use Prim.Native.Nat.{ℕ, ◌/◌}
use native.Mathlib.Omega.{arith}
use mathlib.Core.Path.{refl, sym, ap, ◌∙◌}
use mathlib.Core.List.{List}
use lib.ListN.{length}
use Rattle.basis.specs.Answer.{Outcome}
use Rattle.marks.proofs.Results.{stops_so, goes_so}
use Rattle.beltuqash.specs.Calls.{ended}
use Rattle.beltuqash.proofs.Checking.{few-fields, nodes-long, fits-long}
use Rattle.beltuqash.proofs.Running.{stop_out, starts, task_in, Done, left-done, runs_done, marks-few, left-stopped, runs-stopped}
use Rattle.beltuqash.proofs.runs.run_from.Goals as goal

pub returns : goal.returns
unfolding ended
returns c =
    let s = starts c.new-run.ensures c.of.ensures.levels c.of.ensures.fields c.of.ensures.constants c.of.ensures.nodes in
    let done : Done _ c.args.store.now _ _ _ c.args.fuel _ _ = record { same = c.fetch.ensures.is; starts = s; ran = c.execute-word.ensures } in
    let count_is = ap (λ (l : List ℕ). length l / 8) s.fields in
    let is = runs_done done (goes_so c.if-is_stop.ensures) c.args.out.now in (
      rw c.left.ensures refl ∙ ap (λ (x : Outcome). x.answer) (sym is),
      rw count_is at c.deliver.ensures ∙ ap (λ (x : Outcome). x.out) (sym is),
    )

pub fetch-requires : goal.fetch-requires
fetch-requires c =
    let s = starts c.new-run.ensures c.of.ensures.levels c.of.ensures.fields c.of.ensures.constants c.of.ensures.nodes in
    let count_is = ap (λ (l : List ℕ). length l / 8) s.fields in
    rw count_is (few-fields _ c.requires.taken.loaded, fits-long _ _ c.requires.taken.fits, refl)

pub overflow_sub-last : goal.overflow_sub-last
overflow_sub-last c =
    let s = starts c.new-run.ensures c.of.ensures.levels c.of.ensures.fields c.of.ensures.constants c.of.ensures.nodes in
    omega (arith, ap length s.nodes, (nodes-long _ c.requires.taken.loaded).0)

pub execute-word-requires : goal.execute-word-requires
execute-word-requires c =
    let s = starts c.new-run.ensures c.of.ensures.levels c.of.ensures.fields c.of.ensures.constants c.of.ensures.nodes in
    task_in c.requires c.fetch.ensures s

pub stopped-requires : goal.stopped-requires
stopped-requires c =
    let s = starts c.new-run.ensures c.of.ensures.levels c.of.ensures.fields c.of.ensures.constants c.of.ensures.nodes in
    let done : Done _ c.args.store.now _ _ _ c.args.fuel _ _ = record { same = c.fetch.ensures.is; starts = s; ran = c.execute-word.ensures } in
    (done.ran.told (stops_so c.if-is_stop.ensures), left-stopped done (stops_so c.if-is_stop.ensures))

pub returns-then-is_stop : goal.returns-then-is_stop
returns-then-is_stop c =
    let s = starts c.new-run.ensures c.of.ensures.levels c.of.ensures.fields c.of.ensures.constants c.of.ensures.nodes in
    let done : Done _ c.args.store.now _ _ _ c.args.fuel _ _ = record { same = c.fetch.ensures.is; starts = s; ran = c.execute-word.ensures } in
    let is = runs-stopped done (stops_so c.if-is_stop.ensures) c.args.out.now in
    (c.stopped.ensures _ _ ∙ ap (λ (x : Outcome). x.answer) (sym is), sym (ap (λ (x : Outcome). x.out) is ∙ stop_out _ _ (done.ran.told (stops_so c.if-is_stop.ensures)) _ _))

pub deliver-requires : goal.deliver-requires
deliver-requires c =
    let s = starts c.new-run.ensures c.of.ensures.levels c.of.ensures.fields c.of.ensures.constants c.of.ensures.nodes in
    let done : Done _ c.args.store.now _ _ _ c.args.fuel _ _ = record { same = c.fetch.ensures.is; starts = s; ran = c.execute-word.ensures } in
    let count_is = ap (λ (l : List ℕ). length l / 8) s.fields in
    rw count_is (few-fields _ c.requires.taken.loaded, c.requires.room-is, marks-few done)

pub overflow_sub-result : goal.overflow_sub-result
overflow_sub-result c =
    let s = starts c.new-run.ensures c.of.ensures.levels c.of.ensures.fields c.of.ensures.constants c.of.ensures.nodes in
    let done : Done _ c.args.store.now _ _ _ c.args.fuel _ _ = record { same = c.fetch.ensures.is; starts = s; ran = c.execute-word.ensures } in
    omega (arith, c.left.ensures, left-done done (goes_so c.if-is_stop.ensures))
