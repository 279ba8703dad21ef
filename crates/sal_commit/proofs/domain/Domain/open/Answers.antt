-- The opening trees are those of the one commit, and break no rule. Its nodes have the stamp 0.
use Rattle.std.proofs.Common.{arith, sym, ◌∙◌}
use Rattle.sal_rules.specs.Breaches.{breach}
use Rattle.sal_commit.specs.Opening.{opening_of_device}
use Rattle.sal_commit.proofs.Sounds.{none-fault}
use Rattle.sal_commit.proofs.domain.Domain.open.Goals as goal

pub returns-clause-opening : goal.returns-clause-opening
returns-clause-opening c = (λ i s. c.in_ok-commits.ensures.opening s i) ∙ c.in_ok-trees.ensures.trees

pub invariant_of-result : goal.invariant_of-result
invariant_of-result c = record {
  planned = c.in_ok-plan.ensures ∙ sym c.in_ok-schema.ensures;
  sound = c.in_ok-commits.ensures.sound c.in_ok-schema.schema.value (λ s.
      (λ i. breach (c.in_ok-schema.ensures i) s (c.in_ok-trees.ensures.trees i s))
      ∙ none-fault c.args.device.now.schema.value (opening_of_device c.args.device.now) c.in_ok-trees.ensures.fault s);
  reached = omega (arith, c.in_ok-commits.ensures.kept.opened);
  following = c.in_ok-commits.ensures.following c.in_ok-trees.ensures.stamps;
}
