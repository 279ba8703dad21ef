use Rattle.std.proofs.Common.{rules, ◌≡◌, length, sym, ◌∙◌}
use Rattle.sal_node.specs.Tree.{pairs}
use Rattle.sal_node.specs.Shape.{tree_at}
use Rattle.sal_check.specs.Uniques.{ways_in}
use Rattle.sal_check.proofs.FreshCells.{no-cells, none-agree}
use Rattle.sal_check.proofs.fresh.Earlier.agree.Goals as goal

pub returns-then-is_empty : goal.returns-then-is_empty
returns-then-is_empty c =
    let none : length c.in_ok-fresh.fresh.items ≡ 0 = search rules in
    sym (none-agree c.args.self.now.stamps.now (ways_in c.args.self.now.ways.now) (tree_at c.args.self.now.list) (pairs c.args.list.now.value.kids)
    (sym c.in_ok-fresh.ensures ∙ no-cells c.in_ok-fresh.fresh.items none))
