use Rattle.std.proofs.Common.{◌≡◌, take}
use Rattle.sal_history.specs.Submissions.{last_from}
use Rattle.sal_retell.specs.Light.{is_on}
use Rattle.sal_retell.proofs.queries.last_receipt.Given as goal

abbrev pub invariant-loop-i : goal.invariant-loop-i
invariant-loop-i l = l.last ≡ last_from 1 (is_on l.chain) (take l.i l.sent)
