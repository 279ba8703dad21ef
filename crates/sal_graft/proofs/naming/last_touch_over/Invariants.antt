-- The spans before the last `back` ones are left to search.
use Rattle.std.proofs.Common.{◌≡◌, ◌-◌, length, take, reverse}
use Rattle.std.specs.Prelude.{find}
use Rattle.sal_rows.specs.Commits.{touches_at}
use Rattle.sal_rows.specs.Clash.{last_touch_over, numbers_over}
use Rattle.sal_graft.specs.Kept.{opening_in, ops_of}
use Rattle.sal_graft.proofs.naming.last_touch_over.Given as goal

abbrev pub invariant-loop-back : goal.invariant-loop-back
invariant-loop-back l =
    find (touches_at (opening_in l.commits) (ops_of l.commits) l.store l.steps) (reverse (numbers_over (take (length l.spans - l.back) l.spans)))
    ≡ last_touch_over (opening_in l.commits) (ops_of l.commits) l.spans l.store l.steps
