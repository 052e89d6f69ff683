-- What a right request has, and that whatever has it is right.
use Prim.Native.Nat.{ℕ, ◌≤◌, ◌<◌}
use mathlib.Core.Path.{◌≡◌, ◌∙◌}
use mathlib.Core.Bool.{true, false, ◌&&◌}
use mathlib.Core.List.{List}
use borrow.Author.Tests.{eqb-true, leb-true, ltb-true, eq-eqb, le-leb}
use lib.Dec.{eqb, ltb, leb}
use lib.ListN.{length}
use Rattle.basis.specs.Tests.{all}
use Rattle.basis.proofs.Tests.{both, is_false, all-at}
use Rattle.handout.specs.Requests.{asked_count, request_length, field_asked, request_right}

-- every field number asked for is a field's
abbrev pub fields_known : ℕ → List ℕ → ℕ → Type 0
fields_known fields request k = all k (λ i. ltb (field_asked request i) fields) ≡ true

pub record Right (fields : ℕ) (request : List ℕ) : Type 0 where
  pub size : length request ≡ request_length (asked_count request)
  pub few : asked_count request ≤ 64
  pub known : (i : ℕ) → i < asked_count request → field_asked request i < fields

module _ (fields : ℕ) (request : List ℕ) where
  pub right_has : request_right fields request ≡ true → Right fields request
  unfolding request_right
  right_has e =
      let (formed, known) = both (eqb (length request) (request_length (asked_count request)) && leb (asked_count request) 64) _ e in
      let (size, few) = both _ _ formed in
      record {
        size = eqb-true _ _ size;
        few = leb-true _ _ few;
        known = λ i h. ltb-true _ _ (all-at _ (λ i. ltb (field_asked request i) fields) known i h);
      }

  -- of the right size, the field numbers decide
  pub right_by_fields : length request ≡ request_length (asked_count request) → asked_count request ≤ 64
      → request_right fields request ≡ all (asked_count request) (λ i. ltb (field_asked request i) fields)
  unfolding request_right
  right_by_fields size few = rw (eq-eqb _ _ size, le-leb _ _ few)

  pub is_right : length request ≡ request_length (asked_count request) → asked_count request ≤ 64 → fields_known fields request (asked_count request)
      → request_right fields request ≡ true
  is_right size few known = right_by_fields size few ∙ known

  pub is_wrong : (Right fields request → ⊥) → request_right fields request ≡ false
  is_wrong f = is_false (request_right fields request) (λ e. f (right_has e))
