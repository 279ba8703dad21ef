-- The least fault of the statements so far.
use Rattle.std.proofs.Common.{◌≡◌, take}
use Rattle.std.specs.List.{flat_map}
use Rattle.sal_module.specs.Faults.{least}
use Rattle.sal_module_table.specs.Lists.{sub_faults}
use Rattle.sal_module_table.proofs.lists.with_list.Given as goal

abbrev pub invariant-loop-sub : goal.invariant-loop-sub
invariant-loop-sub l = l.best ≡ least l.initial.best (flat_map (sub_faults l.nodes.modules.now l.nodes.forest.now l.k l.branch) (take l.sub-index l.subs))
