-- One more follower.
use Rattle.std.proofs.Common.{◌+◌, ◌++◌, List, drop, ap, ◌∙◌, arith}
use Rattle.sal_follow.specs.States.{Following}
use Rattle.sal_prepare.specs.Scripted.{tables_in}
use Rattle.sal_cluster.specs.StandBys.{before_from}
use Rattle.sal_cluster.proofs.Followed.{all_before, next_before}
use Rattle.sal_cluster.proofs.standby.each_before.Goals as goal

pub loop-domain-preserved : goal.loop-domain-preserved
loop-domain-preserved c =
    let l = c.loop-domain in
    let firsts = c.args.firsts.now in
    let schemas = c.args.schemas.now in
    ap (λ (fs : List Following). fs ++ before_from firsts (l.domain + 1) (tables_in (drop (l.domain + 1) schemas))) c.in_ok-push.ensures.items
    ∙ next_before firsts schemas l.domain c.index-schemas-domain.result l.followers.items _ _ c.loop-domain-test.true c.index-schemas-domain.is c.first_of.ensures c.in_ok-one.ensures l.invariant

pub returns : goal.returns
returns c = let l = c.loop-domain in all_before c.args.firsts.now c.args.schemas.now l.domain l.followers.items _ (omega (arith, c.loop-domain-test.false)) l.invariant
