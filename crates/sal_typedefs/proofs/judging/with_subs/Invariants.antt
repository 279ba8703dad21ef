-- The least of the first faults.
use Rattle.std.proofs.Common.{◌≡◌, take}
use Rattle.std.specs.List.{flat_map}
use Rattle.sal_restrict.specs.declared.yang_type.YangType.TheViews.{out-YangType}
use Rattle.sal_module.specs.Faults.{least}
use Rattle.sal_module.specs.Statements.{subs_of}
use Rattle.sal_typedefs.specs.Restrictions.{sub_faults, unlisted}
use Rattle.sal_typedefs.proofs.judging.with_subs.Given as goal

abbrev pub invariant-loop-sub : goal.invariant-loop-sub
invariant-loop-sub l = l.best ≡ least l.initial.best (flat_map (sub_faults (unlisted l.ty l.itself) (out-YangType l.ty) l.number) (take l.sub-index (subs_of l.stmt)))
