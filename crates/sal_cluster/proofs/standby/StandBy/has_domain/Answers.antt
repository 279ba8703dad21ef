-- The controller's own domain is there, and those that are counted.
use Rattle.std.proofs.Common.{◌≡◌, ◌≤◌, length, ap, ◌∙◌, subst, arith}
use Rattle.std.specs.Prelude.{nat_lt}
use Rattle.std.proofs.lemmas.Bool.Decides.{nat_tests}
use Rattle.sal_cluster.specs.declared.standby.Standing.{Standing}
use Rattle.sal_cluster.proofs.Numbered.{domain_past, domain_zero}
use Rattle.sal_cluster.proofs.Followed.{some_followed}
use Rattle.sal_cluster.proofs.standby.StandBy.has_domain.Goals as goal

pub returns-then-domain-eq0-clause-is : goal.returns-then-domain-eq0-clause-is
returns-then-domain-eq0-clause-is c = domain_zero c.args.domain _ c.if-domain-eq0.true

pub returns-then-domain-eq0-clause-inside : goal.returns-then-domain-eq0-clause-inside
returns-then-domain-eq0-clause-inside c =
    let some : 1 ≤ length c.args.self.now.followers.items = subst (λ (s : Standing). 1 ≤ length s.followers.items) c.self.view_is (some_followed c.self.inside.standing c.self.invariant) in
    λ yes. omega (arith, some, c.if-domain-eq0.true)

pub returns-clause-is : goal.returns-clause-is
returns-clause-is c =
    let many = ap length c.all-followers.ensures ∙ ap (λ (s : Standing). length s.followers.items) c.self.view_is in
    ap (nat_lt c.args.domain) many ∙ domain_past c.args.domain _ (omega (arith, c.if-domain-eq0.false))

pub returns-clause-inside : goal.returns-clause-inside
returns-clause-inside c =
    let many = ap length c.all-followers.ensures ∙ ap (λ (s : Standing). length s.followers.items) c.self.view_is in
    λ yes. grind (arith, nat_tests, many, yes)
