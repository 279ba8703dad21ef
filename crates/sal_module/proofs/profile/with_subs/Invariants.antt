use Rattle.std.proofs.Common.{◌≡◌, take}
use Rattle.std.specs.List.{flat_map}
use Rattle.sal_module.specs.Faults.{least}
use Rattle.sal_module.specs.Statements.{subs_of}
use Rattle.sal_module.specs.Table.{rule_view}
use Rattle.sal_module.specs.Profile.{sub_faults}
use Rattle.sal_module.proofs.profile.with_subs.Given as goal

abbrev pub invariant-loop-sub : goal.invariant-loop-sub
invariant-loop-sub l =
    l.best ≡ least l.initial.best (flat_map (sub_faults l.number l.parent (rule_view l.rule)) (take l.sub-index (subs_of l.parent)))
