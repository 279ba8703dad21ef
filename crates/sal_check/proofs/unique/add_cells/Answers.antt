use Rattle.std.proofs.Common.{rules, ◌≡◌, ◌++◌, true, Some, sym, ap, ◌∙◌}
use Rattle.std.specs.Prelude.{is_some}
use Rattle.std.specs.Option.{option_map}
use Rattle.std.specs.Borrow.{Bor}
use Rattle.std.specs.declared.alloc.Global.{Global}
use Rattle.std.specs.declared.vec.Vec.{Vec}
use Rattle.sal_types.specs.declared.value.Cell.{Cell}
use Rattle.sal_check.specs.Nodes.{seen_in}
use Rattle.sal_rules.specs.Rules.{cells_at}
use Rattle.sal_check.specs.Uniques.{cells_in, all_cells_in, ways_in}
use Rattle.sal_check.proofs.Combined.{all_cells_in-push, combination-some}
use Rattle.sal_check.proofs.unique.add_cells.Goals as goal

pub returns-in_ok-push-in-Some : goal.returns-in_ok-push-in-Some
returns-in_ok-push-in-Some c =
    let node = c.args.child.now.node.value in
    let filled : is_some node.cell ≡ true = search rules in
    let same : cells_at (seen_in (Some node)) (ways_in c.args.ways.now) ≡ Some (cells_in c.in-Some.cells.items) =
    sym c.in_ok-cells_at.ensures ∙ ap (option_map (λ (v : Vec (Bor Cell) Global). cells_in v.items)) c.in-Some.is in
    ap all_cells_in c.in_ok-push-in-Some.ensures.items ∙ all_cells_in-push c.args.found.now.items c.in-Some.cells
    ∙ ap (λ l. all_cells_in c.args.found.now.items ++ l) (combination-some (ways_in c.args.ways.now) (c.args.child.now.step, node) (cells_in c.in-Some.cells.items) filled same)
