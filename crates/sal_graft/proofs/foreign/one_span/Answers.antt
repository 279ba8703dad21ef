-- No commit parts it.
use Rattle.std.proofs.Common.{sym, ◌∙◌, arith}
use Rattle.sal_graft.proofs.Parting.{spans-plain}
use Rattle.sal_graft.proofs.foreign.one_span.Goals as goal

pub returns-clause-spans : goal.returns-clause-spans
returns-clause-spans c = c.in_ok-spans.ensures.items ∙ sym (spans-plain c.args.base c.args.commits.now (omega arith))
