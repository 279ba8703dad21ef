-- All are of their types where those that are left are.
use Rattle.std.proofs.Common.{◌≡◌, drop}
use Rattle.sal_schema.specs.Paths.{are_of_nodes}
use Rattle.sal_schema.proofs.schema.Schema.are_of_nodes.Given as goal

abbrev pub invariant-loop-i : goal.invariant-loop-i
invariant-loop-i l = are_of_nodes l.self l.leafs l.values ≡ are_of_nodes l.self (drop l.i l.leafs) (drop l.i l.values)
