use Rattle.std.proofs.Common.{rules, ◌≡◌, ◌++◌, List, true, Some, sym, ap, ◌∙◌}
use Rattle.std.specs.Option.{option_map}
use Rattle.std.specs.Borrow.{Bor}
use Rattle.std.specs.declared.alloc.Global.{Global}
use Rattle.std.specs.declared.vec.Vec.{Vec}
use Rattle.sal_types.specs.declared.value.Cell.{Cell}
use Rattle.sal_node.specs.Shape.{tree_at}
use Rattle.sal_check.specs.Near.{differs, leafs_of}
use Rattle.sal_check.specs.Uniques.{cells_in, all_cells_in, ways_in}
use Rattle.sal_check.proofs.Combined.{all_cells_in-push}
use Rattle.sal_check.proofs.FreshCells.{adds-new}
use Rattle.sal_check.proofs.fresh.Earlier.add_fresh.Goals as goal

pub returns-in_ok-push : goal.returns-in_ok-push
returns-in_ok-push c =
    let node = c.args.child.now.node.value in
    let ways = ways_in c.args.self.now.ways.now in
    let old = leafs_of ways (tree_at c.args.before) in
    let has : leafs_of ways (Some node) ≡ Some (cells_in c.in-Some.cells.items) =
    sym c.in_ok-cells.ensures ∙ ap (option_map (λ (v : Vec (Bor Cell) Global). cells_in v.items)) c.in-Some.is in
    let yes : c.in_ok-differ.field-0 ≡ true = search rules in
    let other : differs old (Some (cells_in c.in-Some.cells.items)) ≡ true = ap (λ (cs : List (Bor Cell)). differs old (Some (cells_in cs))) (sym c.deref.ensures.value) ∙ sym c.in_ok-differ.ensures ∙ yes in
    ap all_cells_in c.in_ok-push.ensures.items ∙ all_cells_in-push c.args.found.now.items c.in-Some.cells
    ∙ ap (λ (l : List (List Cell)). all_cells_in c.args.found.now.items ++ l) (sym (adds-new ways old (c.args.child.now.step, node) (cells_in c.in-Some.cells.items) has other))
