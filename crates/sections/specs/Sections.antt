-- The sheet's sections, in document 01's order and words. A sheet is the list of its bytes.
use Rattle.std.specs.Prelude.{ℕ, ◌+◌, ◌*◌, min, ◌&&◌, List, length, take, drop, leb, eqb}
use Rattle.basis.specs.Bytes.{word_at}
use Rattle.sections.specs.Verdict.{Verdict, ◌then◌, told}
use Rattle.sections.specs.declared.verdict.SheetError.TheVariants.{Length, Count}

-- Sections stand each after its count; counts are two bytes.
abbrev pub count_of : List ℕ → ℕ
count_of rest = word_at rest 0

-- where the section at the front of the rest ends: after its entries of `size` bytes each
unfoldable pub section_end : ℕ → List ℕ → ℕ
section_end size rest = 2 + count_of rest * size

-- a section read hands back the part of the sheet it covers, its entries without the count
unfoldable pub entries_of : ℕ → List ℕ → List ℕ
entries_of size rest = take (count_of rest * size) (drop 2 rest)

-- 1: sheet ends too soon; 2: a count outside its limits; in byte order: count, its limit, its entries
unfoldable pub section_verdict : ℕ → ℕ → ℕ → List ℕ → Verdict
section_verdict size least most rest =
    told (leb 2 (length rest)) Length
    then told (leb least (count_of rest) && leb (count_of rest) most) Count
    then told (leb (section_end size rest) (length rest)) Length

-- Each section is read from where the one before ended: the offset after the section at an offset, or the sheet's end where it ends too soon.
unfoldable pub offset_after : List ℕ → ℕ → ℕ → ℕ
offset_after sheet at size = min (at + section_end size (drop at sheet)) (length sheet)

-- levels, 2 bytes an entry; fields, 8; constants, 4; nodes, 8
abbrev pub fields_at : List ℕ → ℕ
fields_at sheet = offset_after sheet 0 2

abbrev pub constants_at : List ℕ → ℕ
constants_at sheet = offset_after sheet (fields_at sheet) 8

abbrev pub nodes_at : List ℕ → ℕ
nodes_at sheet = offset_after sheet (constants_at sheet) 4

abbrev pub end_at : List ℕ → ℕ
end_at sheet = offset_after sheet (nodes_at sheet) 8

abbrev pub levels_of : List ℕ → List ℕ
levels_of sheet = entries_of 2 (drop 0 sheet)

abbrev pub fields_of : List ℕ → List ℕ
fields_of sheet = entries_of 8 (drop (fields_at sheet) sheet)

abbrev pub constants_of : List ℕ → List ℕ
constants_of sheet = entries_of 4 (drop (constants_at sheet) sheet)

abbrev pub nodes_of : List ℕ → List ℕ
nodes_of sheet = entries_of 8 (drop (nodes_at sheet) sheet)

-- 1: bytes left
abbrev pub end_verdict : List ℕ → Verdict
end_verdict rest = told (eqb (length rest) 0) Length

-- section by section: 1 to 16 levels, 1 to 64 fields, 0 to 256 constants, 1 to 1,024 nodes
unfoldable pub sections_verdict : List ℕ → Verdict
sections_verdict sheet =
    section_verdict 2 1 16 (drop 0 sheet)
    then section_verdict 8 1 64 (drop (fields_at sheet) sheet)
    then section_verdict 4 0 256 (drop (constants_at sheet) sheet)
    then section_verdict 8 1 1024 (drop (nodes_at sheet) sheet)
    then end_verdict (drop (end_at sheet) sheet)
