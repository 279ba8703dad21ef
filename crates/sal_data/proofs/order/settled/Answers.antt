use Rattle.std.proofs.Common.{rules, ◌∙◌, sym}
use Rattle.sal_types.specs.Tree.{IsAscending}
use Rattle.sal_data.proofs.PutInOrder.{in_order-rising}
use Rattle.sal_data.proofs.order.settled.Goals as goal

pub returns-then-rises : goal.returns-then-rises
returns-then-rises c =
    let rises : IsAscending c.args.rows.items = search rules in
    c.tree_of.ensures ∙ sym (in_order-rising c.args.rows.items rises)
