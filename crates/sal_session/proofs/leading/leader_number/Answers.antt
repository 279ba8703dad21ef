-- By whether there is the domain.
use Rattle.sal_session.proofs.Kept.{numbered, unnumbered}
use Rattle.sal_session.proofs.leading.leader_number.Goals as goal

pub short_number-requires : goal.short_number-requires
short_number-requires c = c.has_domain.ensures.inside c.if-has_domain.true

pub returns-then-has_domain : goal.returns-then-has_domain
returns-then-has_domain c = numbered c.args.leader.now c.args.domain _ _ _ c.has_domain.ensures.is c.if-has_domain.true c.short_number.ensures

pub returns : goal.returns
returns c = unnumbered c.args.leader.now c.args.domain _ _ c.has_domain.ensures.is c.if-has_domain.false
