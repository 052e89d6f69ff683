-- How the code counts uses: up to two, in an array. Only contracts inside this crate cite it.
use Rattle.std.specs.Prelude.{ℕ, zero, suc, ◌≡◌, Bool, true, cond, ◌&&◌, List, get_or, set, eqb, ltb, is_ok}
use Rattle.sections.specs.Verdict.{Verdict}
use Rattle.nodes.specs.declared.Held.{Held}
use Rattle.nodes.specs.Nodes.{node_count, kind_at, slot_at, held_in, is_child, of_sort, node_verdict, nodes_verdict}
use Rattle.nodes.specs.Uses.{uses_below}

unfoldable pub up_to_two : ℕ → ℕ
up_to_two zero = 0
up_to_two (suc zero) = 1
up_to_two (suc (suc uses)) = 2

-- the array has the uses by the nodes below n
pub record Counts (s : List ℕ) (n : ℕ) (used : List ℕ) : Type 0 where
  pub at : (c : ℕ) → get_or used c 0 ≡ up_to_two (uses_below s n c)

-- node w counted once more
unfoldable pub counted : ℕ → List ℕ → List ℕ
counted w used = set used w (cond (eqb (get_or used w 0) 0) 1 2)

-- the children in the first k slots of node n
unfoldable pub counted_slots : List ℕ → ℕ → ℕ → List ℕ → List ℕ
counted_slots s n zero used = used
counted_slots s n (suc k) used =
    cond (is_child (held_in (kind_at s n) k)) (counted (slot_at s n k) (counted_slots s n k used)) (counted_slots s n k used)

-- node w is taken for a child of node n, and counted
abbrev pub TakesChild : List ℕ → ℕ → ℕ → Held → List ℕ → List ℕ → Bool → Type 0
TakesChild s n w held used after r = (r ≡ (ltb w n && of_sort held (kind_at s w))) × (r ≡ true → after ≡ counted w used)

-- node n is free of every fault, and its children are counted
abbrev pub TakesNode : List ℕ → ℕ → ℕ → ℕ → List ℕ → List ℕ → Bool → Type 0
TakesNode s fields constants n used after r = (r ≡ is_ok (node_verdict s fields constants n)) × (r ≡ true → after ≡ counted_slots s n 3 used)

-- all nodes are judged, and their children counted where they pass
abbrev pub Judges : List ℕ → ℕ → ℕ → List ℕ → Verdict → Type 0
Judges s fields constants after v = (v ≡ nodes_verdict s fields constants) × (is_ok v ≡ true → Counts s (node_count s) after)
