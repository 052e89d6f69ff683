-- The nodes: what stands in their slots, and what is wrong with one. `s` is the part of the sheet that holds them, 8 bytes each.
use Rattle.std.specs.Prelude.{ℕ, zero, suc, ◌+◌, ◌*◌, ◌/◌, ◌≤◌, Bool, true, false, not, ◌&&◌, ◌||◌, List, [], ◌∷◌, length, get_or, Ok, eqb, leb, ltb}
use Rattle.basis.specs.Bytes.{word_at}
use Rattle.basis.specs.Tests.{all}
use Rattle.sections.specs.Verdict.{Verdict, ◌then◌, told}
use Rattle.nodes.specs.declared.Held.{Held}
use Rattle.nodes.specs.declared.Held.TheVariants.{Nothing, Constant, Field, Expression, Command}
use Rattle.sections.specs.declared.verdict.Fault.{Fault}
use Rattle.sections.specs.declared.verdict.Fault.TheVariants.{Unknown, Unused, Range, Sort}
use Rattle.sections.specs.declared.verdict.SheetError.TheVariants.{Node}

abbrev pub node_count : List ℕ → ℕ
node_count s = length s / 8

-- node n lies whole in s
abbrev pub In : List ℕ → ℕ → Type 0
In s n = n * 8 + 8 ≤ length s

-- kind, operator (1 byte each), a, b, c (2 bytes each): slots 0, 1, 2
abbrev pub kind_at : List ℕ → ℕ → ℕ
kind_at s n = get_or s (n * 8) 0

abbrev pub op_at : List ℕ → ℕ → ℕ
op_at s n = get_or s (n * 8 + 1) 0

abbrev pub slot_at : List ℕ → ℕ → ℕ → ℕ
slot_at s n k = word_at s (n * 8 + 2 + k * 2)

-- what the slots of each kind hold
unfoldable pub kinds : List (List Held)
kinds =
    (Constant ∷ [])  -- 0 constant a
    ∷ (Field ∷ [])  -- 1 field a
    ∷ (Expression ∷ Expression ∷ [])  -- 2 operator on expressions a and b
    ∷ (Expression ∷ [])  -- 3 not a
    ∷ (Expression ∷ [])  -- 4 seal a
    ∷ []  -- 5 skip
    ∷ (Field ∷ Expression ∷ [])  -- 6 field a := expression b
    ∷ (Command ∷ Command ∷ [])  -- 7 command a then command b
    ∷ (Expression ∷ Command ∷ Command ∷ [])  -- 8 if expression a then command b else command c
    ∷ (Expression ∷ Command ∷ [])  -- 9 while expression a do command b
    ∷ []

-- what slot k of a kind holds; other slots are unused
unfoldable pub held_in : ℕ → ℕ → Held
held_in kind k = get_or (get_or kinds kind []) k Nothing

abbrev pub is_child : Held → Bool
is_child Nothing = false
is_child Constant = false
is_child Field = false
is_child Expression = true
is_child Command = true

-- kinds 0 to 9; operators 0 to 9
unfoldable pub known : ℕ → ℕ → Bool
known kind op = leb kind 9 && (not (eqb kind 2) || leb op 9)

-- the operator byte is 0 in other kinds
unfoldable pub operator_zero : ℕ → ℕ → Bool
operator_zero kind op = eqb kind 2 || eqb op 0

-- unused places are 0
abbrev pub zero_in : Held → ℕ → Bool
zero_in Nothing w = eqb w 0
zero_in Constant w = true
zero_in Field w = true
zero_in Expression w = true
zero_in Command w = true

-- an index is in range; a child's number is lower than its parent's, n
abbrev pub range_right : ℕ → ℕ → ℕ → Held → ℕ → Bool
range_right fields constants n Nothing w = true
range_right fields constants n Constant w = ltb w constants
range_right fields constants n Field w = ltb w fields
range_right fields constants n Expression w = ltb w n
range_right fields constants n Command w = ltb w n

-- a child's sort, by its kind
abbrev pub of_sort : Held → ℕ → Bool
of_sort Nothing kind = true
of_sort Constant kind = true
of_sort Field kind = true
of_sort Expression kind = leb kind 4
of_sort Command kind = ltb 4 kind

-- of a child that is lower
abbrev pub sort_right : List ℕ → ℕ → Held → ℕ → Bool
sort_right s n held w = leb n w || of_sort held (kind_at s w)

-- a slot of node n is free of a fault
unfoldable pub slot_right : List ℕ → ℕ → ℕ → ℕ → Fault → Held → ℕ → Bool
slot_right s fields constants n Unknown held w = true
slot_right s fields constants n Unused held w = zero_in held w
slot_right s fields constants n Range held w = range_right fields constants n held w
slot_right s fields constants n Sort held w = sort_right s n held w

unfoldable pub slots_right : List ℕ → ℕ → ℕ → ℕ → Fault → Bool
slots_right s fields constants n fault = all 3 (λ k. slot_right s fields constants n fault (held_in (kind_at s n) k) (slot_at s n k))

-- 19, 20, 21, 22, within a node in this order: unknown kind or operator; an unused place, or the operator byte in a kind without one, not 0; child or
-- index number out of range or not lower; child of the wrong sort
unfoldable pub node_verdict : List ℕ → ℕ → ℕ → ℕ → Verdict
node_verdict s fields constants n =
    told (known (kind_at s n) (op_at s n)) (Node Unknown n)
    then told (operator_zero (kind_at s n) (op_at s n) && slots_right s fields constants n Unused) (Node Unused n)
    then told (slots_right s fields constants n Range) (Node Range n)
    then told (slots_right s fields constants n Sort) (Node Sort n)

-- of the nodes below n, the lowest first
unfoldable pub verdict_below : List ℕ → ℕ → ℕ → ℕ → Verdict
verdict_below s fields constants zero = Ok tt
verdict_below s fields constants (suc n) = verdict_below s fields constants n then node_verdict s fields constants n

abbrev pub nodes_verdict : List ℕ → ℕ → ℕ → Verdict
nodes_verdict s fields constants = verdict_below s fields constants (node_count s)
