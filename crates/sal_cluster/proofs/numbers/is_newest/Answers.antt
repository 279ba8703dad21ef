-- There are not so many domains.
use Rattle.std.proofs.Common.{arith}
use Rattle.sal_cluster.proofs.Numbered.{none_past}
use Rattle.sal_cluster.proofs.numbers.is_newest.Goals as goal

pub returns-then-index-ge64 : goal.returns-then-index-ge64
returns-then-index-ge64 c = none_past c.args.index _ _ c.requires (omega (arith, c.if-index-ge64.true))
