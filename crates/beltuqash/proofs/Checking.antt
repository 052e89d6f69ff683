-- The lists of checks: no check tells number 0, and what a sheet, a store and a request have where all hold.
use Prim.Native.Nat.{ℕ, ◌≤◌, ◌<◌}
use native.Mathlib.Omega.{arith}
use mathlib.Core.Path.{◌≡◌, refl, sym, ap}
use mathlib.Core.Bool.{Bool, true, false, ◌&&◌}
use mathlib.Core.List.{List, ◌++◌}
use borrow.Author.Tests.{eqb-true, leb-true, ltb-true}
use Rattle.std.specs.Prelude.{is_ok}
use lib.Dec.{ltb, leb}
use lib.ListN.{length, drop}
use Rattle.basis.specs.Numbers as numbers
use Rattle.basis.specs.Answer.{refusal}
use Rattle.basis.specs.Checks.{all_hold, tells}
use Rattle.basis.proofs.Tests.{both, split}
use Rattle.basis.proofs.Checks.{append-all, no_more, ◌also◌, Numbered}
use Rattle.levels.specs.Levels.{count}
use Rattle.sections.specs.Verdict.{verdict_number, verdict_place, Verdict}
use Rattle.sections.specs.Sections.{fields_at, nodes_at, levels_of, fields_of, nodes_of}
use Rattle.sections.proofs.Verdicts.{passes-is, number-some}
use Rattle.sections.proofs.Cuts.{entries-length}
use Rattle.sheet.specs.Load.{field_count, load_of}
use Rattle.sheet.specs.Inside.Loaded.{Loaded}
use Rattle.sheet.proofs.Loading.{loaded}
use Rattle.store.specs.declared.Mode.{Mode}
use Rattle.store.specs.declared.Mode.TheVariants.{Permissive}
use Rattle.store.specs.Marks.{mode_of}
use Rattle.store.specs.Stores.{store_length, store_fits, marks_right}
use Rattle.handout.specs.Requests.{asked_count, request_right}
use Rattle.handout.specs.Answers.{answer_length}
use Rattle.handout.specs.Inside.Asks.{AsksAs}
use Rattle.beltuqash.specs.Calls.{sheet_checks, store_checks, run_checks, request_checks, hand_out_checks, refused_position, load}
use Rattle.beltuqash.specs.Inside.Given.{Taken, Given, Requested}

-- ── no check tells success ──────────────────────────────────────────────────────────────────

never : {holds : Bool} (number : ℕ) → (number ≡ numbers.done → ⊥) → holds ≡ false → number ≡ numbers.done → ⊥
never number some f = some

module _ (sheet : List ℕ) where
  some_number : is_ok (load_of sheet) ≡ false → verdict_number (load_of sheet) ≡ numbers.done → ⊥
  some_number e = number-some _ e

  pub run_numbered : (store : List ℕ) (mode fuel room : ℕ) → Numbered (run_checks sheet store mode fuel room)
  run_numbered store mode fuel room =
      never numbers.mode_or_fuel (λ e. omega arith) also some_number also never numbers.store_misfit (λ e. omega arith) also never numbers.mark_wrong (λ e. omega arith) also never numbers.out_short (λ e. omega arith) also no_more

  pub hand_out_numbered : (store : List ℕ) (reader : ℕ) (request : List ℕ) (room : ℕ) → Numbered (hand_out_checks sheet store reader request room)
  hand_out_numbered store reader request room =
      some_number also never numbers.store_misfit (λ e. omega arith) also never numbers.mark_wrong (λ e. omega arith)
      also never numbers.reader_or_request (λ e. omega arith) also never numbers.out_short (λ e. omega arith) also never numbers.partial_asked (λ e. omega arith) also no_more

  -- load tells the verdict's number and place
  pub load_is : load sheet ≡ refusal (verdict_number (load_of sheet)) (verdict_place (load_of sheet))
  unfolding load tells
  load_is =
      split (is_ok (load_of sheet))
      (λ t. rw t (ap (λ (v : Verdict). refusal (verdict_number v) (verdict_place v)) (sym (passes-is (load_of sheet) t))))
      (λ f. rw f refl)

-- ── where all hold ──────────────────────────────────────────────────────────────────────────

module _ (sheet : List ℕ) where
  pub sheet_holds : all_hold (sheet_checks sheet) ≡ true → Loaded sheet
  unfolding all_hold
  sheet_holds h = loaded sheet (passes-is (load_of sheet) (both _ _ h).0)

  pub both_hold : (store : List ℕ) (mode : Mode) → all_hold (sheet_checks sheet ++ store_checks sheet store mode) ≡ true → Taken sheet store mode
  unfolding all_hold
  both_hold store mode h =
      let (passes, rest) = both _ _ h in
      let (fits, last) = both _ _ rest in
      record { loaded = loaded sheet (passes-is (load_of sheet) passes); fits = fits; marks = (both _ _ last).0 }

  pub run_holds : (store : List ℕ) (mode fuel room : ℕ) → all_hold (run_checks sheet store mode fuel room) ≡ true → Given sheet store mode fuel room
  unfolding all_hold
  run_holds store mode fuel room h =
      let (asked, rest) = both (leb mode 1 && leb fuel 1000000) _ h in
      let (known, few) = both (leb mode 1) _ asked in
      let (passes, more) = both (is_ok (load_of sheet)) _ rest in
      let (fits, most) = both (store_fits (field_count sheet) store) _ more in
      let (marks, last) = both (marks_right (mode_of mode) (count (levels_of sheet)) (field_count sheet) store) _ most in
      record {
        taken = record { loaded = loaded sheet (passes-is (load_of sheet) passes); fits = fits; marks = marks };
        mode_known = leb-true mode 1 known;
        few = leb-true fuel 1000000 few;
        room-is = leb-true _ room (both (leb (store_length (field_count sheet)) room) _ last).0;
      }

  -- a reader and a request that are right
  module _ (store : List ℕ) (reader : ℕ) (request : List ℕ) where
    pub requested : Taken sheet store Permissive → (ltb reader (count (levels_of sheet)) && request_right (field_count sheet) request) ≡ true → Requested sheet store reader request
    requested taken h = let (known, right) = both (ltb reader _) _ h in record { taken = taken; reader-known = ltb-true _ _ known; right_request = right }

    -- with room for the answer, and no field that refuses
    pub hand_out_holds : (room : ℕ) → all_hold (hand_out_checks sheet store reader request room) ≡ true
        → Requested sheet store reader request × (answer_length request ≤ room) × (asked_count request ≤ refused_position sheet store reader request)
    unfolding all_hold
    hand_out_holds room h =
        let (taken, rest) = append-all (request_checks sheet store reader request room) (sheet_checks sheet ++ store_checks sheet store Permissive) h in
        let (asked, last) = both _ _ rest in
        let (long, none) = both _ _ last in
        (requested (both_hold store Permissive taken) asked, leb-true _ _ long, leb-true _ _ (both _ _ none).0)

-- ── what a sheet and a store have ───────────────────────────────────────────────────────────

module _ (sheet : List ℕ) (loaded : Loaded sheet) where
  -- 1 to 64 fields
  pub fields-long : length (fields_of sheet) ≤ 512
  fields-long =
      let part = loaded.sections.fields in
      let long = entries-length 8 (drop (fields_at sheet) sheet) part.whole in
      let few = part.few in
      omega arith

  pub few-fields : field_count sheet ≤ 64
  few-fields = omega (arith, fields-long)

  -- 1 to 1,024 nodes
  pub nodes-long : (8 ≤ length (nodes_of sheet)) × (length (nodes_of sheet) ≤ 8192)
  nodes-long =
      let part = loaded.sections.nodes in
      let long = entries-length 8 (drop (nodes_at sheet) sheet) part.whole in
      let some = part.some in
      let few = part.few in
      (omega arith, omega arith)

pub fits-long : (fields : ℕ) (store : List ℕ) → store_fits fields store ≡ true → length store ≡ store_length fields
unfolding store_fits
fits-long fields store e = eqb-true _ _ (both _ _ e).0

-- a reader and a store that hand-out's functions take
pub asks_as : {sheet store : List ℕ} {reader : ℕ} → Taken sheet store Permissive → reader < count (levels_of sheet) → AsksAs (levels_of sheet) store (field_count sheet) reader
asks_as taken known = record {
  long = fits-long _ _ taken.fits;
  reader-known = known;
  marks = taken.marks;
}
