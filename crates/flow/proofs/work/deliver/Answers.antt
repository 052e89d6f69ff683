-- One entry more at each turn; past the last field the store is written.
use native.Mathlib.Omega.{arith}
use Prim.Native.Nat.{ℕ, ◌+◌, ◌%◌, ◌<◌}
use mathlib.Core.Path.{◌≡◌, sym, ap, ap₂, ◌∙◌}
use mathlib.Core.List.{List, ◌∷◌}
use lib.Seq.{sets}
use Rattle.std.proofs.lemmas.List.{get_or-take}
use Rattle.value.specs.Bytes.{bytes_of}
use Rattle.store.specs.Marks.{mark_of}
use Rattle.store.specs.Stores.{entry_at, entry_of, store_entries, store_bytes}
use Rattle.marks.specs.Inside.Words.{blank, work_at, work_of}
use Rattle.marks.specs.declared.Cell.{Cell as Held}
use Rattle.basis.proofs.Filling.{headed, headed_length, filled, fill_first, fill_next, fill_last}
use Rattle.store.proofs.Entries.{entry_length_lem, no_entries, one_entry_more, entries-length}
use Rattle.flow.proofs.Fetching.{cell_entry}
use Rattle.flow.proofs.work.deliver.Goals as goal

pub loop-field-init : goal.loop-field-init
loop-field-init c =
    let count = c.args.fields % 256 in
    let z = c.args.out.now in
    fill_first count z (omega (arith, c.requires.1)) ∙ ap (λ (l : List ℕ). filled count l (entry_at 0) (headed count z)) (sym (no_entries (work_of mark_of c.args.work.now)))

pub put_field-requires : goal.put_field-requires
put_field-requires c =
    let inside : c.loop-field.field < c.args.fields = omega arith in (
      omega (arith, inside, c.requires.1, c.loop-field.auto.out, headed_length (c.args.fields % 256) c.args.out.now),
      rw (get_or-take c.args.fields c.args.work.now c.loop-field.field blank inside) (c.requires.2 _ inside),
    )

pub loop-field-preserved : goal.loop-field-preserved
unfolding work_at
loop-field-preserved c =
    let z = c.args.out.now in
    let σ = work_of mark_of c.args.work.now in
    let i = c.loop-field.field in
    let count = c.args.fields % 256 in
    let inside : i < c.args.fields = omega arith in
    let taken = get_or-take c.args.fields c.args.work.now i blank inside in
    c.put_field.ensures
    ∙ ap₂ (λ (l e : List ℕ). sets l (entry_at i) e) c.loop-field.invariant (ap (λ (held : Held). held.mark ∷ bytes_of held.value.n) taken ∙ cell_entry _)
    ∙ fill_next count (store_entries σ i) (entry_of (σ i)) (entry_at i) (entry_at (i + 1)) (headed count z) (omega (arith, entries-length σ i)) (omega (arith, entry_length_lem (σ i)))
    (omega (arith, c.requires.1, headed_length count z))
    ∙ ap (λ (l : List ℕ). filled count l (entry_at (i + 1)) (headed count z)) (one_entry_more σ i)

pub returns : goal.returns
unfolding store_bytes
returns c =
    let fields = c.args.fields in
    let count = fields % 256 in
    let z = c.args.out.now in
    let σ = work_of mark_of c.args.work.now in
    let all : c.loop-field.field ≡ fields = omega arith in
    c.loop-field.invariant ∙ ap (λ (k : ℕ). filled count (store_entries σ k) (entry_at k) (headed count z)) all
    ∙ fill_last count (store_entries σ fields) (entry_at fields) z (omega arith)
