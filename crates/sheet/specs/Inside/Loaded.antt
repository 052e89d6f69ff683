-- What a sheet has that passes.
use Rattle.std.specs.Prelude.{ℕ, ◌≤◌, ◌<◌, ◌≡◌, true, List}
use Rattle.levels.specs.Levels.{right}
use Rattle.sections.specs.Sections.{levels_of, fields_of, nodes_of}
use Rattle.sections.specs.Inside.Whole.{Sections}
use Rattle.names.specs.Names.{names_right}
use Rattle.nodes.specs.Nodes.{node_count, kind_at}
use Rattle.nodes.specs.Uses.{uses_below}
use Rattle.nodes.specs.Inside.Formed.{WellFormed}
use Rattle.sheet.specs.Depth.{cmd_depth}
use Rattle.sheet.specs.Load.{field_count, constant_count, last_of, program_of}

pub record Loaded (sheet : List ℕ) : Type 0 where
  pub sections : Sections sheet
  pub levels : right (levels_of sheet) ≡ true
  pub names : names_right (fields_of sheet) ≡ true
  -- kinds and operators known, children lower and of the right sort, indices in range, unused places 0
  pub nodes : WellFormed (nodes_of sheet) (field_count sheet) (constant_count sheet)
  -- every node but the last is a child exactly once
  pub once : (c : ℕ) → c < last_of (nodes_of sheet) → uses_below (nodes_of sheet) (node_count (nodes_of sheet)) c ≡ 1
  -- the last node is a command
  pub command : 5 ≤ kind_at (nodes_of sheet) (last_of (nodes_of sheet))
  pub depth : cmd_depth (program_of sheet) ≤ 64
