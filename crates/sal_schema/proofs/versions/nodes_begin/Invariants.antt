-- It begins with the older list exactly if the rest does.
use Rattle.std.proofs.Common.{◌≡◌, drop}
use Rattle.sal_schema.specs.Same.{begins, same_node}
use Rattle.sal_schema.proofs.versions.nodes_begin.Given as goal

abbrev pub invariant-loop-i : goal.invariant-loop-i
invariant-loop-i l = begins same_node l.older l.newer ≡ begins same_node (drop l.i l.older) (drop l.i l.newer)
