-- The least fault of the statements so far.
use Rattle.std.proofs.Common.{◌≡◌, take}
use Rattle.std.specs.List.{flat_map}
use Rattle.sal_module.specs.Faults.{least}
use Rattle.sal_module.specs.Statements.{subs_of}
use Rattle.sal_module_table.specs.Identities.{seen}
use Rattle.sal_module_table.specs.OldBases.{base_faults}
use Rattle.sal_module_table.proofs.old_bases.with_identity.Given as goal

abbrev pub invariant-loop-sub : goal.invariant-loop-sub
invariant-loop-sub l = l.best ≡ least l.initial.best (flat_map (base_faults l.ages.old l.ages.typedefs.now (seen l.ages.all.now) l.module) (take l.sub-index (subs_of l.one)))
