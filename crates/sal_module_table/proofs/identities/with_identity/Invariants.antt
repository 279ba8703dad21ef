-- The least fault of the statements so far.
use Rattle.std.proofs.Common.{◌≡◌, take}
use Rattle.std.specs.List.{flat_map}
use Rattle.sal_module.specs.Faults.{least}
use Rattle.sal_module.specs.Statements.{subs_of}
use Rattle.sal_grouping.specs.Indexes.{lists}
use Rattle.sal_module_table.specs.Identities.{base_faults}
use Rattle.sal_module_table.proofs.identities.with_identity.Given as goal

abbrev pub invariant-loop-sub : goal.invariant-loop-sub
invariant-loop-sub l = l.best ≡ least l.initial.best (flat_map (base_faults l.typedefs (lists l.circles.edges.now) l.i l.module) (take l.sub-index (subs_of l.one)))
