-- By whether there is the domain.
use Rattle.std.proofs.Common.{refl}
use Rattle.sal_session.proofs.Kept.{is_fed, not_fed}
use Rattle.sal_session.proofs.standing.fed.Goals as goal

pub fed_one-requires : goal.fed_one-requires
fed_one-requires c = c.has_domain.ensures.inside c.if-has_domain.true

pub returns-then-has_domain : goal.returns-then-has_domain
returns-then-has_domain c =
    is_fed c.args.standby.now c.fed_one.new.standby c.args.domain c.args.piece.now _ _ _ _ c.has_domain.ensures.is c.if-has_domain.true c.fed_one.ensures

pub returns : goal.returns
returns c = not_fed c.args.standby.now c.args.standby.now c.args.domain c.args.piece.now _ _ _ _ c.has_domain.ensures.is c.if-has_domain.false refl (c.bare.ensures.number, c.bare.ensures.text)
