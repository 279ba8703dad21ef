use Rattle.std.proofs.Common.{◌≡◌, ◌++◌, take, drop}
use Rattle.std.specs.FinMap.{find}
use Rattle.sal_types.specs.Order.{path_cmp}
use Rattle.sal_mod.specs.Early.{any_prefix, is_early}
use Rattle.sal_mod.proofs.firsts.is_early_on.Given as goal

abbrev pub invariant-loop-depth : goal.invariant-loop-depth
invariant-loop-depth l = any_prefix (λ q. is_early l.before (find path_cmp q l.places)) l.steps ≡ any_prefix (λ q. is_early l.before (find path_cmp (take l.depth l.steps ++ q) l.places)) (drop l.depth l.steps)
