-- The controller's own domain is there, and those that are counted.
use Rattle.std.proofs.Common.{ap, ◌∙◌, arith}
use Rattle.std.specs.Prelude.{nat_lt}
use Rattle.std.proofs.lemmas.Bool.Decides.{nat_tests}
use Rattle.sal_cluster.proofs.Numbered.{domain_past, domain_zero}
use Rattle.sal_cluster.proofs.numbers.has_domain.Goals as goal

pub returns-then-domain-eq0-clause-is : goal.returns-then-domain-eq0-clause-is
returns-then-domain-eq0-clause-is c = domain_zero c.args.domain _ c.if-domain-eq0.true

pub returns-then-domain-eq0-clause-inside : goal.returns-then-domain-eq0-clause-inside
returns-then-domain-eq0-clause-inside c = λ yes. omega (arith, c.stays_lawful.ensures.some, c.if-domain-eq0.true)

pub returns-clause-is : goal.returns-clause-is
returns-clause-is c = ap (nat_lt c.args.domain) c.domains.ensures.all ∙ domain_past c.args.domain _ (omega (arith, c.if-domain-eq0.false))

pub returns-clause-inside : goal.returns-clause-inside
returns-clause-inside c = λ yes. grind (arith, nat_tests, c.domains.ensures.all, yes)
