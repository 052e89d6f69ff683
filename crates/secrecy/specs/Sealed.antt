-- Document 01's trial of a hand-out: the flag sheet with a seal, permissive, leaves q partial at cost 600, and a request for q gets 18. Then document 02,
-- "Three", on stores of that sheet.
use Rattle.std.specs.Prelude.{ℕ, ◌≡◌, refl, List, [], ◌∷◌, ◌++◌, pos, drop}
use Rattle.value.specs.Values.{operating}
use Rattle.value.specs.Bytes.{bits_of, bytes_of}
use Rattle.basis.specs.Numbers as numbers
use Rattle.basis.specs.Answer.{success, refusal}
use Rattle.store.specs.Marks.{Mark, whole, partial}
use Rattle.handout.specs.Answers.{answer_length, withheld}
use Rattle.beltuqash.specs.Calls.{run, hand_out, calling}
use Rattle.secrecy.specs.Flag.{entry, sealed_sheet, store_at}

-- flag is whole 0, q is partial 0 with value 1, and cost is what it was
unfoldable pub left_at600 : List ℕ
left_at600 = (3 ∷ 0 ∷ []) ++ entry (whole 0) 0 ++ entry (partial 0) 1 ++ entry (whole 1) 600

pub run_leaves_q_partial : run sealed_sheet (store_at 600) 1 1000 (store_at 0) ≡ record { answer = success 6; out = left_at600 }
unfolding sealed_sheet store_at left_at600 operating bits_of bytes_of calling
run_leaves_q_partial = refl

-- field 1, by a reader at level 0, with room for the answer
pub request_for_q : hand_out sealed_sheet left_at600 0 (1 ∷ 0 ∷ 1 ∷ 0 ∷ []) (store_at 0) ≡ record { answer = refusal numbers.partial_asked 0; out = store_at 0 }
unfolding sealed_sheet store_at left_at600 bits_of bytes_of calling
request_for_q = refl

-- flag and q with these marks and value 1, and cost; a request for flag, then q
abbrev marked : Mark → Mark → List ℕ
marked flag q = (3 ∷ 0 ∷ []) ++ entry flag 1 ++ entry q 1 ++ entry (whole 1) 600

abbrev flag_and_q : List ℕ
flag_and_q = 2 ∷ 0 ∷ 0 ∷ 0 ∷ 1 ∷ 0 ∷ []

-- q, partial at level 1, is withheld from a reader at level 0; flag is open to him
pub q_withheld : hand_out sealed_sheet (marked (whole 0) (partial 1)) 0 flag_and_q (store_at 0) ≡ record {
  answer = success 0;
  out = (2 ∷ 0 ∷ []) ++ (1 ∷ bytes_of (pos 1)) ++ withheld ++ drop (answer_length flag_and_q) (store_at 0);
}
unfolding sealed_sheet store_at operating bits_of bytes_of calling
q_withheld = refl

-- flag, partial at level 1, does not refuse him, and q, partial at level 0, does: position 1
pub place_of_18 : hand_out sealed_sheet (marked (partial 1) (partial 0)) 0 flag_and_q (store_at 0) ≡ record { answer = refusal numbers.partial_asked 1; out = store_at 0 }
unfolding sealed_sheet store_at bits_of bytes_of calling
place_of_18 = refl
