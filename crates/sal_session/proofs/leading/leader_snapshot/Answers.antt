-- By whether there is the domain.
use Rattle.sal_session.specs.Streams as spec
use Rattle.sal_session.proofs.Kept.{in_domain, no_domain}
use Rattle.sal_session.proofs.leading.leader_snapshot.Goals as goal

pub snapshot-requires : goal.snapshot-requires
snapshot-requires c = c.has_domain.ensures.inside c.if-has_domain.true

pub returns-then-has_domain : goal.returns-then-has_domain
returns-then-has_domain c =
    in_domain (spec.LeaderSnapshot c.args.leader.now c.args.domain) _ _ _ _ c.has_domain.ensures.is c.if-has_domain.true (c.snapshot.result, c.snapshot.ensures, c.export_told.ensures)

pub returns : goal.returns
returns c = no_domain (spec.LeaderSnapshot c.args.leader.now c.args.domain) _ _ _ _ c.has_domain.ensures.is c.if-has_domain.false (c.bare.ensures.number, c.bare.ensures.text)
