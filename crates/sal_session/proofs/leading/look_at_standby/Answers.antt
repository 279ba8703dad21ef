-- By whether there is the domain.
use Rattle.sal_session.specs.Streams as spec
use Rattle.sal_session.proofs.Kept.{in_domain, no_domain}
use Rattle.sal_session.proofs.leading.look_at_standby.Goals as goal

pub look_in_standby-requires : goal.look_in_standby-requires
look_in_standby-requires c = c.has_domain.ensures.inside c.if-has_domain.true

pub returns-then-has_domain : goal.returns-then-has_domain
returns-then-has_domain c =
    in_domain (spec.LooksIn c.args.standby.now c.args.domain c.args.store c.args.path.now) _ _ _ _ c.has_domain.ensures.is c.if-has_domain.true c.look_in_standby.ensures

pub returns : goal.returns
returns c = no_domain (spec.LooksIn c.args.standby.now c.args.domain c.args.store c.args.path.now) _ _ _ _ c.has_domain.ensures.is c.if-has_domain.false (c.bare.ensures.number, c.bare.ensures.text)
