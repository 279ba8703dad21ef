use Rattle.sal_lint.proofs.Counting.{lines_are_counted}
use Rattle.sal_lint.proofs.laws.lines_are_counted.Goals as goal

pub returns : goal.returns
returns c = lines_are_counted
