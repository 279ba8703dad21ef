-- By whether there is the domain.
use Rattle.sal_cluster.proofs.Numbered.{absent, present_as}
use Rattle.sal_cluster.proofs.numbers.has_newest.Goals as goal

pub returns-then-has_domain : goal.returns-then-has_domain
returns-then-has_domain c = present_as _ _ _ _ c.has_domain.ensures.is c.if-has_domain.true c.is_number.ensures

pub returns : goal.returns
returns c = absent _ _ _ c.has_domain.ensures.is c.if-has_domain.false
