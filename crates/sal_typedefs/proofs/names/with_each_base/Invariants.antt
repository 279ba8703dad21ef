-- The least of the first faults.
use Rattle.std.proofs.Common.{◌≡◌, take}
use Rattle.std.specs.List.{flat_map}
use Rattle.sal_module.specs.Faults.{least}
use Rattle.sal_module.specs.Statements.{subs_of}
use Rattle.sal_typedefs.specs.Names.{base_fault}
use Rattle.sal_typedefs.proofs.names.with_each_base.Given as goal

abbrev pub invariant-loop-sub : goal.invariant-loop-sub
invariant-loop-sub l = l.best ≡ least l.initial.best (flat_map (base_fault l.typedefs l.number) (take l.sub-index (subs_of l.stmt)))
