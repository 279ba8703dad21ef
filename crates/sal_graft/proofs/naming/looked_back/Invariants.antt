-- The commits before the last `back` ones are left to search.
use Rattle.std.proofs.Common.{◌≡◌, ◌-◌, reverse}
use Rattle.std.specs.Prelude.{find}
use Rattle.sal_rows.specs.Commits.{numbers_after, touches_at, last_touch}
use Rattle.sal_graft.specs.Kept.{opening_in, ops_of}
use Rattle.sal_graft.proofs.naming.looked_back.Given as goal

abbrev pub invariant-loop-back : goal.invariant-loop-back
invariant-loop-back l =
    find (touches_at (opening_in l.commits) (ops_of l.commits) l.store l.steps) (reverse (numbers_after l.span.from (l.span.to - l.span.from - l.back)))
    ≡ last_touch (opening_in l.commits) (ops_of l.commits) l.store l.steps l.span
