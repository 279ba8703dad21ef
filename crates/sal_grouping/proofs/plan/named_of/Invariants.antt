use Rattle.std.proofs.Common.{◌≡◌, take, map}
use Rattle.sal_grouping.specs.Groupings.{named_by}
use Rattle.sal_grouping.proofs.plan.named_of.Given as goal

abbrev pub invariant-loop-row : goal.invariant-loop-row
invariant-loop-row l = l.named.items ≡ map (named_by l.modules l.t.rows.items) (take l.row-index l.t.rows.items)
