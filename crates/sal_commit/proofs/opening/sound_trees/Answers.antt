-- The fault of the trees is that of the device.
use Rattle.std.proofs.Common.{sym, ◌∙◌, inr}
use Rattle.sal_commit.specs.Opening.{fault_over}
use Rattle.sal_commit.proofs.opening.sound_trees.Goals as goal

pub returns-in-None-clause-fault : goal.returns-in-None-clause-fault
returns-in-None-clause-fault c = (λ i. fault_over (sym c.requires i) (sym c.in_ok-trees.ensures.trees i)) ∙ sym c.in_ok-fault_in.ensures ∙ c.in-None.is

pub returns-in-Some-clause-fault : goal.returns-in-Some-clause-fault
returns-in-Some-clause-fault c = inr ((λ i. fault_over (sym c.requires i) (sym c.in_ok-trees.ensures.trees i)) ∙ sym c.in_ok-fault_in.ensures ∙ c.in-Some.is)
