-- One verdict for each text, and yes for what `run` and `sim` write.
use Rattle.std.proofs.Common.{sym, ◌∙◌}
use Rattle.sal_script.specs.OneOrder.{PlayedCanBeLeft}
use Rattle.sal_script.specs.SomeOrder.{LeftIsReported}
use Rattle.sal_verdict.specs.declared.verdict.Verdict.TheVariants.{Yes}
use Rattle.sal_verdict.specs.Laws.{PlaysAreYes, RunsAreYes, VerdictsAreJudged, VerdictsAreOne}

pub verdicts-are-one : VerdictsAreJudged → VerdictsAreOne
verdicts-are-one judged world clients text first second few one other = (judged world clients text first few).0 one ∙ sym ((judged world clients text second few).0 other)

pub runs-are-yes : VerdictsAreJudged → RunsAreYes
runs-are-yes judged world clients text few it = sym ((judged world clients text Yes few).0 it)

pub plays-are-yes : VerdictsAreJudged → LeftIsReported → PlayedCanBeLeft → PlaysAreYes
plays-are-yes judged reported left world clients order played few plays =
    runs-are-yes judged world clients _ few (reported world clients played.log played.replies (left world clients order played plays).1)
