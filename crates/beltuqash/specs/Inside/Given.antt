-- What is given once checks have passed.
use Rattle.std.specs.Prelude.{ℕ, ◌≤◌, ◌<◌, ◌≡◌, true, List}
use Rattle.levels.specs.Levels.{count}
use Rattle.sections.specs.Sections.{levels_of}
use Rattle.sheet.specs.Load.{field_count}
use Rattle.sheet.specs.Inside.Loaded.{Loaded}
use Rattle.store.specs.declared.Mode.{Mode}
use Rattle.store.specs.declared.Mode.TheVariants.{Permissive}
use Rattle.store.specs.Marks.{mode_of}
use Rattle.store.specs.Stores.{store_length, store_fits, marks_right}
use Rattle.handout.specs.Requests.{request_right}
use Rattle.handout.specs.declared.answers.HandOut.{HandOut}

-- a sheet that passes, and a store that fits it with right marks
pub record Taken (sheet store : List ℕ) (mode : Mode) : Type 0 where
  pub loaded : Loaded sheet
  pub fits : store_fits (field_count sheet) store ≡ true
  pub marks : marks_right mode (count (levels_of sheet)) (field_count sheet) store ≡ true

-- a run of them, with room for the final store
pub record Given (sheet store : List ℕ) (mode fuel room : ℕ) : Type 0 where
  pub taken : Taken sheet store (mode_of mode)
  pub mode_known : mode ≤ 1
  pub few : fuel ≤ 1000000
  pub room-is : store_length (field_count sheet) ≤ room

-- a reader's right request of them
pub record Requested (sheet store : List ℕ) (reader : ℕ) (request : List ℕ) : Type 0 where
  pub taken : Taken sheet store Permissive
  pub reader-known : reader < count (levels_of sheet)
  pub right_request : request_right (field_count sheet) request ≡ true

-- the hand-out of a request, as it came in
pub record Asks (sheet bytes : List ℕ) (level : ℕ) (asked : List ℕ) (h : HandOut) : Type 0 where
  pub levels : h.levels.rows.now ≡ levels_of sheet
  pub store : h.store.now ≡ bytes
  pub reader : h.reader ≡ level
  pub request : h.request.bytes.now ≡ asked
