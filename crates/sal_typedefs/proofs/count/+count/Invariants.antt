-- The result of the first statements.
use Rattle.std.proofs.Common.{◌≡◌, ◌+◌, ◌-◌, take}
use Rattle.std.specs.List.{sum_by}
use Rattle.sal_module.specs.Statements.{subs_of}
use Rattle.sal_typedefs.specs.Names.{count}
use Rattle.sal_typedefs.proofs.count.+count.Given as goal

abbrev pub decreases-count : goal.decreases-count
decreases-count l = l.levels

abbrev pub invariant-loop-sub : goal.invariant-loop-sub
invariant-loop-sub l = l.tally ≡ l.fn.tally + (1 + sum_by (count (l.levels - 1)) (take l.sub-index (subs_of l.stmt)))
