-- What load answers, and what comes back for it by document 01's table.
use Rattle.std.specs.Prelude.{ℕ, Bool, cond, Result, Ok, Err}
use Rattle.std.specs.Result.{result_and}
use Rattle.basis.specs.Numbers as numbers
use Rattle.sections.specs.declared.verdict.Fault.{Fault}
use Rattle.sections.specs.declared.verdict.Fault.TheVariants.{Unknown, Unused, Range, Sort}
use Rattle.sections.specs.declared.verdict.SheetError.{SheetError}
use Rattle.sections.specs.declared.verdict.SheetError.TheVariants.{Length, Count, Levels, Name, Node, Uses, Depth}

-- load finds nothing wrong, or tells the first thing that is
abbrev pub Verdict : Type 0
Verdict = Result Unit SheetError

-- what is wrong with a node
abbrev pub fault_number : Fault → ℕ
fault_number Unknown = numbers.node_unknown  -- unknown kind or operator
fault_number Unused = numbers.node_unused  -- an unused place, or the operator byte in a kind without one, not 0
fault_number Range = numbers.node_range  -- child or index number out of range or not lower
fault_number Sort = numbers.node_sort  -- child of the wrong sort

-- what is wrong with a sheet
abbrev pub error_number : SheetError → ℕ
error_number Length = numbers.sheet_length  -- sheet ends too soon or has bytes left
error_number Count = numbers.count_outside  -- a count outside its limits
error_number Levels = numbers.levels_wrong  -- levels not as above
error_number Name = numbers.name_wrong  -- a bad or repeated name
error_number (Node fault n) = fault_number fault
error_number Uses = numbers.not_used_once  -- a node not used once, or the last not a command
error_number Depth = numbers.too_deep  -- depth over 64

-- success is number 0
abbrev pub verdict_number : Verdict → ℕ
verdict_number (Ok none) = numbers.done
verdict_number (Err e) = error_number e

-- the place of a node's fault is its number; all other refusals of a sheet have place 0
abbrev pub error_place : SheetError → ℕ
error_place Length = 0
error_place Count = 0
error_place Levels = 0
error_place Name = 0
error_place (Node fault n) = n
error_place Uses = 0
error_place Depth = 0

abbrev pub verdict_place : Verdict → ℕ
verdict_place (Ok none) = 0
verdict_place (Err e) = error_place e

-- in order of checks: the first that refuses is told
infixr 10 ◌then◌
unfoldable pub ◌then◌ : Verdict → Verdict → Verdict
v then w = result_and v w

-- a check, and what it answers where it does not pass
abbrev pub told : Bool → SheetError → Verdict
told right e = cond right (Ok tt) (Err e)
