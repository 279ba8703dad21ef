use Rattle.std.proofs.Common.{◌≡◌, List, rules, ◌∙◌, subst, sym}
use Rattle.std.specs.Prelude.{IfOk}
use Rattle.sal_types.specs.declared.row.Row.{Row}
use Rattle.sal_types.specs.Tree.{IsAscending}
use Rattle.sal_data.proofs.PutInOrder.{in_order-rising}
use Rattle.sal_data.proofs.order.in_order.Goals as goal

pub returns-then-rises : goal.returns-then-rises
returns-then-rises c =
    let rises : IsAscending c.args.rows.items = search rules in
    c.tree_of.ensures ∙ sym (in_order-rising c.args.rows.items rises)

pub returns : goal.returns
returns c = subst (λ (ordered : List Row). IfOk c.sorted.result (λ tree. tree ≡ ordered)) c.partial_insertion_sort.ensures c.sorted.ensures
