-- The least fault of the statements so far.
use Rattle.std.proofs.Common.{◌≡◌, take}
use Rattle.std.specs.List.{flat_map}
use Rattle.sal_module.specs.Faults.{least}
use Rattle.sal_module_table.specs.Lists.{config_fault}
use Rattle.sal_module_table.proofs.lists.with_configs.Given as goal

abbrev pub invariant-loop-sub : goal.invariant-loop-sub
invariant-loop-sub l = l.best ≡ least l.initial.best (flat_map (config_fault l.nodes.modules.now l.nodes.forest.now l.branch) (take l.sub-index l.subs))
