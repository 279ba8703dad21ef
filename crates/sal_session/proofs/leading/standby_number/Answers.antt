-- By whether there is the domain.
use Rattle.sal_session.proofs.Kept.{none_held}
use Rattle.sal_session.proofs.leading.standby_number.Goals as goal

pub number-requires : goal.number-requires
number-requires c = c.has_domain.ensures.inside c.if-has_domain.true

pub returns : goal.returns
returns c = none_held c.args.standby.now.followers.items c.args.domain _ c.has_domain.ensures.is c.if-has_domain.false
