-- Those of the cases so far that are there are counted.
use Rattle.std.proofs.Common.{◌≡◌, ◌≤◌, Some, length, take}
use Rattle.std.specs.List.{filter}
use Rattle.sal_check.specs.Nodes.{seen_in}
use Rattle.sal_rules.specs.Rules.{stands}
use Rattle.sal_check.proofs.rules.has_two_cases.Given as goal

abbrev pub invariant-loop-case : goal.invariant-loop-case
invariant-loop-case l = record {
  count : l.present ≡ length (filter (stands l.walk.schema.now (seen_in (Some l.place.node.now.value))) (take l.case-index l.case-items));
  few : l.present ≤ l.case-index;
}
