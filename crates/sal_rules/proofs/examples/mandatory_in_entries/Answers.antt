-- Each example by computation.
use Rattle.std.proofs.Common.{refl}
use Rattle.sal_schema.specs.Table.{closest}
use Rattle.sal_rules.specs.Breaches.{first}
use Rattle.sal_rules.specs.Contexts.{through_plain, from_list}
use Rattle.sal_rules.specs.Rules.{is_there}
use Rattle.sal_rules.proofs.examples.mandatory_in_entries.Goals as goal

pub returns-clause-leaf : goal.returns-clause-leaf
unfolding closest first through_plain from_list is_there
returns-clause-leaf c = refl

pub returns-clause-leaf_in_a_case : goal.returns-clause-leaf_in_a_case
unfolding closest first through_plain from_list is_there
returns-clause-leaf_in_a_case c = refl

pub returns-clause-other_case : goal.returns-clause-other_case
unfolding closest first through_plain from_list is_there
returns-clause-other_case c = refl

pub returns-clause-choice : goal.returns-clause-choice
unfolding closest first through_plain from_list is_there
returns-clause-choice c = refl
