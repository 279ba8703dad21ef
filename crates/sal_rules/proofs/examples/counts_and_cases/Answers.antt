-- Each example by computation.
use Rattle.std.proofs.Common.{refl}
use Rattle.sal_schema.specs.Table.{closest}
use Rattle.sal_rules.specs.Breaches.{first}
use Rattle.sal_rules.specs.Contexts.{through_plain, from_list}
use Rattle.sal_rules.specs.Rules.{is_there}
use Rattle.sal_rules.proofs.examples.counts_and_cases.Goals as goal

pub returns-clause-too_few : goal.returns-clause-too_few
unfolding closest first through_plain from_list is_there
returns-clause-too_few c = refl

pub returns-clause-enough : goal.returns-clause-enough
unfolding closest first through_plain from_list is_there
returns-clause-enough c = refl

pub returns-clause-too_many : goal.returns-clause-too_many
unfolding closest first through_plain from_list is_there
returns-clause-too_many c = refl

pub returns-clause-two_cases : goal.returns-clause-two_cases
unfolding closest first through_plain from_list is_there
returns-clause-two_cases c = refl

pub returns-clause-lesser_rule : goal.returns-clause-lesser_rule
unfolding closest first through_plain from_list is_there
returns-clause-lesser_rule c = refl

pub returns-clause-state_in_the_configuration : goal.returns-clause-state_in_the_configuration
unfolding closest first through_plain from_list is_there
returns-clause-state_in_the_configuration c = refl

pub returns-clause-state_in_the_operational_store : goal.returns-clause-state_in_the_operational_store
unfolding closest first through_plain from_list is_there
returns-clause-state_in_the_operational_store c = refl
