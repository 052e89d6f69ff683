-- Document 01's flag sheet, byte for byte as in examples/flag.sheet, the same with a seal in its last test, and the stores that they are run from.
--   flag := 0; q := 0; if cost < 500 then flag := 1 else skip; if flag = 0 then q := 1 else skip
use Rattle.std.specs.Prelude.{ℕ, List, [], ◌∷◌, ◌++◌, pos}
use Rattle.store.specs.Cells.{cell}
use Rattle.store.specs.Marks.{Mark, whole}
use Rattle.store.specs.Stores.{entry_of}

-- a node whose slots are all below 256: kind, operator, a, b, c
abbrev pub node : ℕ → ℕ → ℕ → ℕ → ℕ → List ℕ
node kind op a b c = kind ∷ op ∷ a ∷ 0 ∷ b ∷ 0 ∷ c ∷ 0 ∷ []

-- what both have ahead of their nodes
abbrev opening : List ℕ
opening =
    (2 ∷ 0 ∷ 3 ∷ 0 ∷ 2 ∷ 0 ∷ [])  -- two levels: rows 3, 2
    ++ (3 ∷ 0 ∷ [])  -- three fields
    ++ (102 ∷ 108 ∷ 97 ∷ 103 ∷ 0 ∷ 0 ∷ 0 ∷ 0 ∷ [])  -- field 0: flag
    ++ (113 ∷ 0 ∷ 0 ∷ 0 ∷ 0 ∷ 0 ∷ 0 ∷ 0 ∷ [])  -- field 1: q
    ++ (99 ∷ 111 ∷ 115 ∷ 116 ∷ 0 ∷ 0 ∷ 0 ∷ 0 ∷ [])  -- field 2: cost
    ++ (3 ∷ 0 ∷ [])  -- three constants
    ++ (0 ∷ 0 ∷ 0 ∷ 0 ∷ [])  -- constant 0: 0
    ++ (1 ∷ 0 ∷ 0 ∷ 0 ∷ [])  -- constant 1: 1
    ++ (244 ∷ 1 ∷ 0 ∷ 0 ∷ [])  -- constant 2: 500

-- and their first nodes
abbrev first_nodes : List ℕ
first_nodes =
    node 0 0 0 0 0  -- 0: 0
    ++ node 6 0 0 0 0  -- 1: flag := 0
    ++ node 0 0 0 0 0  -- 2: 0
    ++ node 6 0 1 2 0  -- 3: q := 0
    ++ node 1 0 2 0 0  -- 4: cost
    ++ node 0 0 2 0 0  -- 5: 500
    ++ node 2 6 4 5 0  -- 6: cost < 500
    ++ node 0 0 1 0 0  -- 7: 1
    ++ node 6 0 0 7 0  -- 8: flag := 1
    ++ node 5 0 0 0 0  -- 9: skip
    ++ node 8 0 6 8 9  -- 10: if cost < 500 then flag := 1 else skip
    ++ node 1 0 0 0 0  -- 11: flag

unfoldable pub flag_sheet : List ℕ
flag_sheet =
    opening
    ++ (21 ∷ 0 ∷ [])  -- 21 nodes
    ++ first_nodes
    ++ node 0 0 0 0 0  -- 12: 0
    ++ node 2 5 11 12 0  -- 13: flag = 0
    ++ node 0 0 1 0 0  -- 14: 1
    ++ node 6 0 1 14 0  -- 15: q := 1
    ++ node 5 0 0 0 0  -- 16: skip
    ++ node 8 0 13 15 16  -- 17: if flag = 0 then q := 1 else skip
    ++ node 7 0 10 17 0  -- 18: node 10, then node 17
    ++ node 7 0 3 18 0  -- 19: node 3, then node 18
    ++ node 7 0 1 19 0  -- 20: node 1, then node 19

-- with seal(flag) = 0 in the last test
unfoldable pub sealed_sheet : List ℕ
sealed_sheet =
    opening
    ++ (22 ∷ 0 ∷ [])  -- 22 nodes
    ++ first_nodes
    ++ node 4 0 11 0 0  -- 12: seal(flag)
    ++ node 0 0 0 0 0  -- 13: 0
    ++ node 2 5 12 13 0  -- 14: seal(flag) = 0
    ++ node 0 0 1 0 0  -- 15: 1
    ++ node 6 0 1 15 0  -- 16: q := 1
    ++ node 5 0 0 0 0  -- 17: skip
    ++ node 8 0 14 16 17  -- 18: if seal(flag) = 0 then q := 1 else skip
    ++ node 7 0 10 18 0  -- 19: node 10, then node 18
    ++ node 7 0 3 19 0  -- 20: node 3, then node 19
    ++ node 7 0 1 20 0  -- 21: node 1, then node 20

-- a field of a store, by its mark and value
abbrev pub entry : Mark → ℕ → List ℕ
entry m n = entry_of (cell (record { n = pos n }) m)

-- Cost at level 1, others 0; all are whole, and flag and q hold 0.
unfoldable pub store_at : ℕ → List ℕ
store_at cost = (3 ∷ 0 ∷ []) ++ entry (whole 0) 0 ++ entry (whole 0) 0 ++ entry (whole 1) cost
