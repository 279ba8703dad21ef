-- The digits are computed.
use Rattle.std.proofs.Common.{refl}
use Rattle.std.specs.Fmt.{digits}
use Rattle.sal_verdict.proofs.examples.verdicts_are_lines.Goals as goal

pub returns-clause-no : goal.returns-clause-no
unfolding digits
returns-clause-no c = refl
