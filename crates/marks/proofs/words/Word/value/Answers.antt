-- The value of the word's low bits.
use Prim.Native.Nat.{ℕ, ◌%◌}
use mathlib.Core.Path.{ap, ◌∙◌}
use lib.IntN.{ℤ}
use Rattle.value.specs.Bytes.{of_bits}
use Rattle.marks.specs.Inside.Words.{upper_half}
use Rattle.marks.proofs.words.Word.value.Goals as goal

pub returns : goal.returns
returns c =
    ap (λ (z : ℤ). record { n = z }) (c.of_bits.ensures ∙ ap (λ (w : ℕ). of_bits (w % upper_half)) c.self.view_is)
