-- How deep trees are: document 01, "The last node is at depth 1, a child one deeper; depth is at most 64".
use Rattle.std.specs.Prelude.{ℕ, suc, max}
use Rattle.sheet.specs.Trees.{Exp, constant, field, operator, not, seal, Cmd, skip, assign, sequence, if_else, while}

-- the greatest depth of a tree's nodes
unfoldable pub exp_depth : Exp → ℕ
exp_depth (constant z) = 1
exp_depth (field a) = 1
exp_depth (operator place op a b) = suc (max (exp_depth a) (exp_depth b))
exp_depth (not a) = suc (exp_depth a)
exp_depth (seal a) = suc (exp_depth a)

unfoldable pub cmd_depth : Cmd → ℕ
cmd_depth (skip place) = 1
cmd_depth (assign place a b) = suc (exp_depth b)
cmd_depth (sequence a b) = suc (max (cmd_depth a) (cmd_depth b))
cmd_depth (if_else place a b c) = suc (max (exp_depth a) (max (cmd_depth b) (cmd_depth c)))
cmd_depth (while place a b) = suc (max (exp_depth a) (cmd_depth b))
