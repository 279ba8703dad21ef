-- The identities so far.
use Rattle.std.proofs.Common.{◌≡◌, map, take}
use Rattle.sal_grouping.specs.Indexes.{lists}
use Rattle.sal_module_table.specs.Identities.{seen, bases_of}
use Rattle.sal_module_table.proofs.identities.edges_of.Given as goal

abbrev pub invariant-loop-one : goal.invariant-loop-one
invariant-loop-one l = lists l.edges.items ≡ map (bases_of l.typedefs) (seen (take l.one-index l.all))
