use Rattle.std.proofs.Common.{rules, ◌≡◌, true}
use Rattle.std.specs.FinMap.{is_sorted}
use Rattle.sal_types.specs.Order.{path_cmp}
use Rattle.sal_delta.specs.Ordered.{marks}
use Rattle.sal_delta.proofs.InOrder.{ordered-rising, rises-marks}
use Rattle.sal_delta.proofs.ordered.settled.Goals as goal

pub returns-then-rises : goal.returns-then-rises
returns-then-rises c =
    let rises : is_sorted path_cmp (marks c.args.list.items) ≡ true = search rules in
    ordered-rising c.args.list.items (rises-marks c.args.list.items rises)
