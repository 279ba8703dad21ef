use Rattle.std.proofs.Common.{◌≡◌, take}
use Rattle.sal_history.specs.Submissions.{last_from}
use Rattle.sal_retell.specs.Light.{begins_on}
use Rattle.sal_retell.proofs.queries.last_begun.Given as goal

abbrev pub invariant-loop-i : goal.invariant-loop-i
invariant-loop-i l = l.last ≡ last_from 0 (begins_on l.chain) (take l.i l.began)
