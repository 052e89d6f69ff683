-- Load, check by check: what is told, and what a sheet has that passes.
use Prim.Native.Nat.{ℕ, ◌≤◌, ◌<◌}
use native.Mathlib.Omega.{arith}
use mathlib.Core.Path.{◌≡◌}
use mathlib.Core.Bool.{true, false, ◌&&◌}
use mathlib.Core.List.{List}
use borrow.Author.Tests.{leb-true, ltb-true, eqb-true}
use lib.Dec.{leb, ltb, eqb}
use lib.ListN.{length, drop}
use Rattle.basis.proofs.Tests.{both, all-at}
use Rattle.levels.specs.Levels.{right}
use Rattle.std.specs.Prelude.{Ok, Err}
use Rattle.sections.specs.Verdict.{◌then◌}
use Rattle.sections.specs.Sections.{nodes_at, levels_of, fields_of, nodes_of, sections_verdict}
use Rattle.names.specs.Names.{names_right}
use Rattle.nodes.specs.Nodes.{node_count, kind_at, nodes_verdict}
use Rattle.nodes.specs.Inside.Formed.{Formed}
use Rattle.nodes.specs.Uses.{uses_below, used_once}
use Rattle.sheet.specs.Depth.{cmd_depth}
use Rattle.sheet.specs.Load.{field_count, constant_count, last_of, program_of, load_of}
use Rattle.sheet.specs.Inside.Loaded.{Loaded}
use Rattle.sections.specs.declared.verdict.SheetError.{SheetError}
use Rattle.sections.specs.declared.verdict.SheetError.TheVariants.{Levels, Name, Uses, Depth}
use Rattle.sections.proofs.Verdicts.{both_pass, told-right, Placed, told-placed, then_placed}
use Rattle.sections.proofs.Cuts.{entries-length, sections_pass, sections-placed}
use Rattle.nodes.proofs.Judged.{nodes-placed, well_formed}

module _ (sheet : List ℕ) where
  pub layout_told : {d : SheetError} → sections_verdict sheet ≡ Err d → Err d ≡ load_of sheet
  unfolding load_of ◌then◌
  layout_told e = simp e

  module _ (layout : sections_verdict sheet ≡ Ok tt) where
    -- 1 to 1,024 nodes
    pub nodes-length : (8 ≤ length (nodes_of sheet)) × (length (nodes_of sheet) ≤ 8192)
    nodes-length =
        let nodes = (sections_pass sheet layout).nodes in
        let long = entries-length 8 (drop (nodes_at sheet) sheet) nodes.whole in
        let some = nodes.some in
        let few = nodes.few in
        (omega arith, omega arith)

    pub levels-told : right (levels_of sheet) ≡ false → Err Levels ≡ load_of sheet
    unfolding load_of ◌then◌
    levels-told e = simp (layout, e)

    module _ (levels : right (levels_of sheet) ≡ true) where
      pub names-told : names_right (fields_of sheet) ≡ false → Err Name ≡ load_of sheet
      unfolding load_of ◌then◌
      names-told e = simp (layout, levels, e)

      module _ (names : names_right (fields_of sheet) ≡ true) where
        pub nodes-told : {d : SheetError} → nodes_verdict (nodes_of sheet) (field_count sheet) (constant_count sheet) ≡ Err d → Err d ≡ load_of sheet
        unfolding load_of ◌then◌
        nodes-told e = simp (layout, levels, names, e)

  -- the checks up to the nodes passed
  pub record NodesPass : Type 0 where
    pub layout : sections_verdict sheet ≡ Ok tt
    pub levels : right (levels_of sheet) ≡ true
    pub names : names_right (fields_of sheet) ≡ true
    pub nodes : nodes_verdict (nodes_of sheet) (field_count sheet) (constant_count sheet) ≡ Ok tt

  module _ (p : NodesPass) where
    pub unused_told : used_once (nodes_of sheet) ≡ false → Err Uses ≡ load_of sheet
    unfolding load_of ◌then◌
    unused_told e = simp (p.layout, p.levels, p.names, p.nodes, e)

    module _ (once : used_once (nodes_of sheet) ≡ true) where
      pub expression_told : ltb 4 (kind_at (nodes_of sheet) (last_of (nodes_of sheet))) ≡ false → Err Uses ≡ load_of sheet
      unfolding load_of ◌then◌
      expression_told e = simp (p.layout, p.levels, p.names, p.nodes, once, e)

      module _ (command : ltb 4 (kind_at (nodes_of sheet) (last_of (nodes_of sheet))) ≡ true) where
        pub depth-told : leb (cmd_depth (program_of sheet)) 64 ≡ false → Err Depth ≡ load_of sheet
        unfolding load_of ◌then◌
        depth-told e = simp (p.layout, p.levels, p.names, p.nodes, once, command, e)

        pub none_told : leb (cmd_depth (program_of sheet)) 64 ≡ true → Ok tt ≡ load_of sheet
        unfolding load_of ◌then◌
        none_told e = simp (p.layout, p.levels, p.names, p.nodes, once, command, e)

    -- nodes that pass are well formed, and some
    pub formed : Formed (nodes_of sheet)
    formed =
        record {
          fields = field_count sheet;
          constants = constant_count sheet;
          nodes = well_formed (nodes_of sheet) (field_count sheet) (constant_count sheet) p.nodes;
          some-node = (nodes-length p.layout).0;
          few = (nodes-length p.layout).1;
        }

  -- what a sheet has that passes
  pub loaded : load_of sheet ≡ Ok tt → Loaded sheet
  unfolding load_of used_once
  loaded e₁ =
      let e₂ = both_pass _ _ e₁ in
      let e₃ = both_pass _ _ e₂.1 in
      let e₄ = both_pass _ _ e₃.1 in
      let e₅ = both_pass _ _ e₄.1 in
      let e₆ = both_pass _ _ e₅.1 in
      let uses = both (used_once (nodes_of sheet)) _ (told-right _ Uses e₆.0) in
      let nodes = nodes_of sheet in
      record {
        sections = sections_pass sheet e₂.0;
        levels = told-right _ Levels e₃.0;
        names = told-right _ Name e₄.0;
        nodes = well_formed (nodes_of sheet) (field_count sheet) (constant_count sheet) e₅.0;
        once = λ c h. eqb-true _ _ (all-at (last_of nodes) (λ c. eqb (uses_below nodes (node_count nodes) c) 1) uses.0 c h);
        command = ltb-true _ _ uses.1;
        depth = leb-true _ _ (told-right _ Depth e₆.1);
      }

  -- the place of what is told is a node's number
  pub load-placed : Placed 1024 (load_of sheet)
  unfolding load_of
  load-placed =
      let some : 0 < 1024 = omega arith in
      then_placed 1024 _ _ (sections-placed 1024 some sheet)
      (λ layout. then_placed 1024 _ _ (told-placed 1024 (right (levels_of sheet)) Levels some some)
      (λ _. then_placed 1024 _ _ (told-placed 1024 (names_right (fields_of sheet)) Name some some)
      (λ _. then_placed 1024 _ _ (nodes-placed (nodes_of sheet) (field_count sheet) (constant_count sheet) 1024 some (node_count (nodes_of sheet)) (omega (arith, (nodes-length layout).1)))
      (λ _. then_placed 1024 _ _ (told-placed 1024 (used_once (nodes_of sheet) && ltb 4 (kind_at (nodes_of sheet) (last_of (nodes_of sheet)))) Uses some some)
      (λ _. told-placed 1024 (leb (cmd_depth (program_of sheet)) 64) Depth some some)))))
