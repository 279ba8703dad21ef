-- The values of the nodes so far.
use Rattle.std.proofs.Common.{◌≡◌, map, take}
use Rattle.sal_grouping.specs.Indexes.{lists}
use Rattle.sal_module_table.specs.Leafrefs.{no_targets}
use Rattle.sal_module_table.proofs.leafrefs.no_edges.Given as goal

abbrev pub invariant-loop-branch : goal.invariant-loop-branch
invariant-loop-branch l = lists l.edges.items ≡ map no_targets (take l._branch-index l.forest)
