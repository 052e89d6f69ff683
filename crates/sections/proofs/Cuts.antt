-- The sheet's sections as parts of it: where they end, what they cover, and what is known of a sheet whose sections pass.
use Prim.Native.Nat.{ℕ, ◌-◌, ◌*◌, ◌≤◌, ◌<◌, min}
use native.Mathlib.Omega.{arith}
use native.Mathlib.Nat.{mul-le-mul}
use mathlib.Core.Path.{◌≡◌, sym, ap, ◌∙◌}
use mathlib.Core.Bool.{◌&&◌}
use mathlib.Core.List.{List}
use borrow.Author.Tests.{leb-true, leb-false, eqb-true, le-leb, lt-leb}
use lib.Dec.{leb, eqb}
use lib.ListN.{length, take, drop, length-take, length-drop, drop_of_length-le}
use lib.Seq.{take_all, take-nil}
use Rattle.basis.proofs.Tests.{both, split}
use Rattle.sections.specs.Verdict.{◌then◌}
use Rattle.sections.specs.Sections.{count_of, section_end, entries_of, section_verdict, sections_verdict, fields_at, constants_at, nodes_at, end_at}
use Rattle.sections.specs.Inside.Whole.{Section, Sections}
use Rattle.sections.specs.declared.verdict.SheetError.TheVariants.{Length, Count}
use Rattle.std.specs.Prelude.{Ok, Err}
use Rattle.sections.proofs.Verdicts.{both_pass, told-right, Placed, told-placed, then_placed}

-- a count of two bytes and entries of at most 255 bytes make a short section
pub few_bytes : (count size : ℕ) → count < 65536 → size < 256 → count * size < 16777216
few_bytes count size h k =
    let c : count ≤ 65535 = omega arith in
    let s : size ≤ 255 = omega arith in
    let p : count * size ≤ 65535 * 255 = mul-le-mul c s in
    omega arith

-- the part from an offset to the end is the rest
pub rest-is : (s : List ℕ) (at : ℕ) → take (length s - at) (drop at s) ≡ drop at s
rest-is s at = take_all (length s - at) (drop at s) (omega (arith, length-drop at s))

-- two parts that would run past the end are one
take_past : (a b : ℕ) (l : List ℕ) → length l ≤ a → length l ≤ b → take a l ≡ take b l
take_past a b l h k = take_all a l h ∙ sym (take_all b l k)

module _ (size : ℕ) (rest : List ℕ) where
  pub end_least : 2 ≤ section_end size rest
  unfolding section_end
  end_least = omega arith

  -- the part from the count to the section's end, or to the rest's, is the section's entries
  entries-part : (end : ℕ) → end ≡ min (section_end size rest) (length rest) → 2 ≤ end → take (end - 2) (drop 2 rest) ≡ entries_of size rest
  unfolding entries_of section_end
  entries-part end e h =
      split (leb (section_end size rest) (length rest))
      (λ t.
      let whole : section_end size rest ≤ length rest = leb-true _ _ t in
      let bytes : end - 2 ≡ count_of rest * size = omega arith in
      ap (λ (n : ℕ). take n (drop 2 rest)) bytes)
      (λ t.
      let cut : length rest < section_end size rest = leb-false _ _ t in
      take_past (end - 2) (count_of rest * size) (drop 2 rest) (omega (arith, length-drop 2 rest)) (omega (arith, length-drop 2 rest)))

  -- where not even the count is whole, there are none
  entries_none : (end : ℕ) → end ≡ min (section_end size rest) (length rest) → end < 2 → take (end - end) (drop end rest) ≡ entries_of size rest
  unfolding entries_of section_end
  entries_none end e h =
      let short : length rest ≤ 2 = omega arith in
      let past : length rest ≤ end = omega arith in
      ap (take (end - end)) (drop_of_length-le rest past) ∙ take-nil (end - end)
      ∙ sym (ap (take (count_of rest * size)) (drop_of_length-le rest short) ∙ take-nil (count_of rest * size))

  pub entries-is : (end : ℕ) → end ≡ min (section_end size rest) (length rest) → take (end - min end 2) (drop (min end 2) rest) ≡ entries_of size rest
  entries-is end e =
      split (leb 2 end)
      (λ t. let from : min end 2 ≡ 2 = omega (arith, leb-true 2 end t) in rw from (entries-part end e (leb-true 2 end t)))
      (λ t. let from : min end 2 ≡ end = omega (arith, leb-false 2 end t) in rw from (entries_none end e (leb-false 2 end t)))

  -- a section's part has as many bytes as its entries
  pub entries-length : section_end size rest ≤ length rest → length (entries_of size rest) ≡ count_of rest * size
  unfolding entries_of section_end
  entries-length whole = omega (arith, length-take (count_of rest * size) (drop 2 rest), length-drop 2 rest)

  module _ (least most : ℕ) where
    -- a section judged: its count is cut, outside its limits, its entries are cut, or it is whole
    pub section_short : length rest < 2 → Err Length ≡ section_verdict size least most rest
    unfolding section_verdict ◌then◌
    section_short h = simp (lt-leb _ _ h)

    pub section_few : 2 ≤ length rest → count_of rest < least → Err Count ≡ section_verdict size least most rest
    unfolding section_verdict ◌then◌
    section_few h l = simp (le-leb _ _ h, lt-leb _ _ l)

    pub section_many : 2 ≤ length rest → least ≤ count_of rest → most < count_of rest → Err Count ≡ section_verdict size least most rest
    unfolding section_verdict ◌then◌
    section_many h l m = simp (le-leb _ _ h, le-leb _ _ l, lt-leb _ _ m)

    pub section_cut : 2 ≤ length rest → least ≤ count_of rest → count_of rest ≤ most → length rest < section_end size rest → Err Length ≡ section_verdict size least most rest
    unfolding section_verdict ◌then◌
    section_cut h l m e = simp (le-leb _ _ h, le-leb _ _ l, le-leb _ _ m, lt-leb _ _ e)

    pub section_whole : 2 ≤ length rest → least ≤ count_of rest → count_of rest ≤ most → section_end size rest ≤ length rest → Ok tt ≡ section_verdict size least most rest
    unfolding section_verdict ◌then◌
    section_whole h l m e = simp (le-leb _ _ h, le-leb _ _ l, le-leb _ _ m, le-leb _ _ e)

    -- and one that passes is whole
    section_passes : section_verdict size least most rest ≡ Ok tt → Section size least most rest
    unfolding section_verdict
    section_passes e₁ =
        let e₂ = both_pass _ _ e₁ in
        let e₃ = both_pass _ _ e₂.1 in
        let limits = both _ _ (told-right _ Count e₃.0) in
        record {
          counted = leb-true _ _ (told-right _ Length e₂.0);
          some = leb-true _ _ limits.0;
          few = leb-true _ _ limits.1;
          whole = leb-true _ _ (told-right _ Length e₃.1);
        }

pub sections_pass : (sheet : List ℕ) → sections_verdict sheet ≡ Ok tt → Sections sheet
unfolding sections_verdict
sections_pass sheet e₁ =
    let e₂ = both_pass _ _ e₁ in
    let e₃ = both_pass _ _ e₂.1 in
    let e₄ = both_pass _ _ e₃.1 in
    let e₅ = both_pass _ _ e₄.1 in
    let none : length (drop (end_at sheet) sheet) ≡ 0 = eqb-true _ _ (told-right _ Length e₅.1) in
    record {
      levels = section_passes _ _ _ _ e₂.0;
      fields = section_passes _ _ _ _ e₃.0;
      constants = section_passes _ _ _ _ e₄.0;
      nodes = section_passes _ _ _ _ e₅.0;
      no_rest = omega arith;
    }

-- 1 and 2 have place 0
module _ (few : ℕ) (some : 0 < few) where
  section_placed : (size least most : ℕ) (rest : List ℕ) → Placed few (section_verdict size least most rest)
  unfolding section_verdict
  section_placed size least most rest =
      then_placed few _ _ (told-placed few (leb 2 (length rest)) Length some some)
      (λ _. then_placed few _ _ (told-placed few (leb least (count_of rest) && leb (count_of rest) most) Count some some)
      (λ _. told-placed few (leb (section_end size rest) (length rest)) Length some some))

  pub sections-placed : (sheet : List ℕ) → Placed few (sections_verdict sheet)
  unfolding sections_verdict
  sections-placed sheet =
      then_placed few _ _ (section_placed 2 1 16 (drop 0 sheet)) (λ _. then_placed few _ _ (section_placed 8 1 64 (drop (fields_at sheet) sheet)) (λ _. then_placed few _ _ (section_placed 4 0 256 (drop (constants_at sheet) sheet))
      (λ _. then_placed few _ _ (section_placed 8 1 1024 (drop (nodes_at sheet) sheet)) (λ _. told-placed few (eqb (length (drop (end_at sheet) sheet)) 0) Length some some))))
