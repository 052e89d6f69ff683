-- What comes back, by document 01's table: the number of each refusal, and 0 for none. What is wrong with a node has 19 to 22; 5 is never given.
-- The names are those of `src/numbers` and of the C header.
use Rattle.std.specs.Prelude.{ℕ, ◌≡◌, ◌≢◌, ◌<◌, Result, MatchResult}
use Rattle.basis.specs.declared.numbers.Number.{Number}
use Rattle.basis.specs.declared.numbers.Number.TheVariants.{SheetLength, CountOutside, LevelsWrong, NameWrong, NotUsedOnce, TooDeep, StoreMisfit, MarkWrong, ModeOrFuel, OutShort, FuelSpent, OutOfRange, DivisorZero, NotBelow, PartialTest, ReaderOrRequest, PartialAsked, NodeUnknown, NodeUnused, NodeRange, NodeSort}
use Rattle.basis.specs.declared.numbers.UnknownNumber.{UnknownNumber}

-- success
abbrev pub done : ℕ
done = 0

-- sheet ends too soon or has bytes left
abbrev pub sheet_length : ℕ
sheet_length = 1

-- a count outside its limits
abbrev pub count_outside : ℕ
count_outside = 2

-- levels not as they must be
abbrev pub levels_wrong : ℕ
levels_wrong = 3

-- a bad or repeated name
abbrev pub name_wrong : ℕ
name_wrong = 4

-- a node not used once, or the last not a command
abbrev pub not_used_once : ℕ
not_used_once = 6

-- depth over 64
abbrev pub too_deep : ℕ
too_deep = 7

-- store length or count doesn't fit the sheet
abbrev pub store_misfit : ℕ
store_misfit = 8

-- a mark above 31 or its level unknown; in a strict run also a partial mark
abbrev pub mark_wrong : ℕ
mark_wrong = 9

-- mode not 0 (strict) or 1 (permissive), or fuel over 1,000,000
abbrev pub mode_or_fuel : ℕ
mode_or_fuel = 10

-- output shorter than the store or answer
abbrev pub out_short : ℕ
out_short = 11

-- fuel used up
abbrev pub fuel_spent : ℕ
fuel_spent = 12

-- result out of range
abbrev pub out_of_range : ℕ
out_of_range = 13

-- divisor 0
abbrev pub divisor_zero : ℕ
divisor_zero = 14

-- strict: context not at or below the field's level
abbrev pub not_below : ℕ
not_below = 15

-- permissive: partial test
abbrev pub partial_test : ℕ
partial_test = 16

-- hand-out: reader unknown, request's size, count or a field number wrong
abbrev pub reader_or_request : ℕ
reader_or_request = 17

-- hand-out: partial field at or below the reader asked
abbrev pub partial_asked : ℕ
partial_asked = 18

-- unknown kind or operator
abbrev pub node_unknown : ℕ
node_unknown = 19

-- unused place, or operator byte in a kind without one, not 0
abbrev pub node_unused : ℕ
node_unused = 20

-- child or index number out of range or not lower
abbrev pub node_range : ℕ
node_range = 21

-- child of the wrong sort
abbrev pub node_sort : ℕ
node_sort = 22

-- the number of a refusal, as the code names it
abbrev pub number_of : Number → ℕ
number_of SheetLength = sheet_length
number_of CountOutside = count_outside
number_of LevelsWrong = levels_wrong
number_of NameWrong = name_wrong
number_of NotUsedOnce = not_used_once
number_of TooDeep = too_deep
number_of StoreMisfit = store_misfit
number_of MarkWrong = mark_wrong
number_of ModeOrFuel = mode_or_fuel
number_of OutShort = out_short
number_of FuelSpent = fuel_spent
number_of OutOfRange = out_of_range
number_of DivisorZero = divisor_zero
number_of NotBelow = not_below
number_of PartialTest = partial_test
number_of ReaderOrRequest = reader_or_request
number_of PartialAsked = partial_asked
number_of NodeUnknown = node_unknown
number_of NodeUnused = node_unused
number_of NodeRange = node_range
number_of NodeSort = node_sort

-- a byte is read as the refusal with that number; 0 and 5 are no refusal's number, nor is one above 22
abbrev pub Decodes : ℕ → Result Number UnknownNumber → Type 0
Decodes byte read = MatchResult read (λ number. number_of number ≡ byte) (λ e. (e.0 ≡ byte) × (byte ≢ 0 → byte ≢ 5 → node_sort < byte))
