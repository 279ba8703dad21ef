-- The statements so far.
use Rattle.std.proofs.Common.{◌≡◌, take}
use Rattle.std.specs.List.{flat_map}
use Rattle.sal_module.specs.Statements.{subs_of}
use Rattle.sal_module_table.specs.Identities.{bases_in}
use Rattle.sal_module_table.proofs.identities.bases_of.Given as goal

abbrev pub invariant-loop-sub : goal.invariant-loop-sub
invariant-loop-sub l = l.bases.items ≡ flat_map (bases_in l.typedefs l.module) (take l.sub-index (subs_of l.one))
