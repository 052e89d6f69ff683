-- What load answers, check by check in the order of document 01's table.
use Rattle.std.specs.Prelude.{ℕ, ◌-◌, ◌/◌, ◌&&◌, List, length, leb, ltb}
use Rattle.levels.specs.Levels.{right}
use Rattle.levels.specs.Lattice.{ordering}
use Rattle.value.specs.Bytes.{of_bits}
use Rattle.sections.specs.Verdict.{Verdict, ◌then◌, told}
use Rattle.sections.specs.Sections.{section_end, entries_of, section_verdict, offset_after, sections_verdict, levels_of, fields_of, constants_of, nodes_of}
use Rattle.names.specs.Names.{is_inner, may_follow, good_name, same_name, new_name, names_right}
use Rattle.nodes.specs.Nodes.{node_count, kind_at, kinds, held_in, known, operator_zero, slot_right, slots_right, node_verdict, verdict_below, nodes_verdict}
use Rattle.sheet.specs.Trees.{Cmd, lower, exp_node, exp_below, exp_at, cmd_node, cmd_below, cmd_at}
use Rattle.nodes.specs.Uses.{uses_in, uses_below, used_once}
use Rattle.sheet.specs.Depth.{exp_depth, cmd_depth}
use Rattle.sections.specs.declared.verdict.SheetError.TheVariants.{Levels, Name, Uses, Depth}

abbrev pub field_count : List ℕ → ℕ
field_count sheet = length (fields_of sheet) / 8

abbrev pub constant_count : List ℕ → ℕ
constant_count sheet = length (constants_of sheet) / 4

abbrev pub last_of : List ℕ → ℕ
last_of nodes = node_count nodes - 1

-- the command that the last node stands for
abbrev pub program_of : List ℕ → Cmd
program_of sheet = cmd_at (constants_of sheet) (nodes_of sheet) (last_of (nodes_of sheet))

unfoldable pub load_of : List ℕ → Verdict
load_of sheet =
    sections_verdict sheet  -- 1 and 2, in byte order
    then told (right (levels_of sheet)) Levels  -- 3: levels not as above
    then told (names_right (fields_of sheet)) Name  -- 4: a bad or repeated name
    then nodes_verdict (nodes_of sheet) (field_count sheet) (constant_count sheet)  -- 19 to 22: what is wrong with a node
    then told (used_once (nodes_of sheet) && ltb 4 (kind_at (nodes_of sheet) (last_of (nodes_of sheet)))) Uses  -- 6: a node not used once, or the last not a command
    then told (leb (cmd_depth (program_of sheet)) 64) Depth  -- 7: depth over 64

-- `unfolding judging` opens all of the checks, so that load computes on a sheet's bytes
unfoldable pub judging : Unit {0}
unfolding ordering load_of ◌then◌ sections_verdict section_verdict offset_after entries_of section_end names_right new_name same_name good_name may_follow is_inner
    verdict_below node_verdict slots_right slot_right known operator_zero held_in kinds used_once uses_below uses_in
    cmd_depth exp_depth cmd_at cmd_below cmd_node exp_at exp_below exp_node lower of_bits
judging = tt
