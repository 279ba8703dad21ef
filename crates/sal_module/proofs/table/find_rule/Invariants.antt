-- The remaining elements to search.
use Rattle.std.proofs.Common.{◌≡◌, drop, map}
use Rattle.sal_module.specs.Table.{rule_among, row_view}
use Rattle.sal_module.proofs.table.find_rule.Given as goal

abbrev pub invariant-loop-row : goal.invariant-loop-row
invariant-loop-row l = rule_among (map row_view l.table) l.keyword ≡ rule_among (map row_view (drop l.row-index l.table)) l.keyword
