-- The statements so far.
use Rattle.std.proofs.Common.{◌≡◌, ◌++◌, take}
use Rattle.std.specs.List.{flat_map}
use Rattle.sal_module.specs.Statements.{subs_of}
use Rattle.sal_module_table.specs.Identities.{seen, identity_here}
use Rattle.sal_module_table.proofs.identities.push_identities.Given as goal

abbrev pub invariant-loop-sub : goal.invariant-loop-sub
invariant-loop-sub l = seen l.all.items ≡ seen l.initial.all.items ++ flat_map (identity_here l.module) (take l.sub-index (subs_of l.stmt))
