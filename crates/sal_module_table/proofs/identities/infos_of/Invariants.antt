-- The identities so far.
use Rattle.std.proofs.Common.{◌≡◌, ◌++◌, drop}
use Rattle.sal_grouping.specs.Indexes.{lists}
use Rattle.sal_module_table.specs.Identities.{seen, infos_from}
use Rattle.sal_module_table.proofs.identities.infos_of.Given as goal

abbrev pub invariant-loop-i : goal.invariant-loop-i
invariant-loop-i l = infos_from (lists l.edges) 0 (seen l.all) ≡ l.infos.items ++ infos_from (lists l.edges) l.i (drop l.i (seen l.all))
