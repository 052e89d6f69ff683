-- The text stands in the part that was written.
use Rattle.std.proofs.Common.{arith, refl, ◌∙◌, ap, ℕ, List, ◌+◌, ◌-◌, ◌≤◌, ◌≡◌, length}
use Rattle.std.proofs.lemmas.Grind.{common_steps}
use Rattle.std.proofs.lemmas.List.Edits.{sets}
use lib.Seq.{sets-eq, length-sets}
use borrow.Rule.Slice.PartMut.{put_mid}
use Rattle.report.proofs.number.put_text.Goals as goal

written : (out text : List ℕ) (at : ℕ) → at + length text ≤ length out → put_mid at (at + length text - at) out text ≡ sets out at text
written out text at room = rw (sets-eq text out at room) (grind (arith, common_steps))

pub returns-then-text-out : goal.returns-then-text-out
returns-then-text-out c =
    let a = c.args in
    let is : put_mid a.at (a.at + length a.text.now - a.at) a.out.now c.copy_from_slice.new.self ≡ sets a.out.now a.at a.text.now =
    rw c.copy_from_slice.ensures.after (written a.out.now a.text.now a.at (omega (arith, c.if-at-out.true, c.if-text-out.true))) in
    record { long = ap length is ∙ length-sets a.out.now a.at a.text.now; bytes = λ room. is; end_is = λ room. refl }
