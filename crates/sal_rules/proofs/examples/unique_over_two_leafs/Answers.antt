-- Each example by computation.
use Rattle.std.proofs.Common.{refl}
use Rattle.sal_schema.specs.Table.{closest}
use Rattle.sal_rules.specs.Breaches.{first}
use Rattle.sal_rules.specs.Contexts.{through_plain, from_list}
use Rattle.sal_rules.specs.Rules.{is_there}
use Rattle.sal_rules.proofs.examples.unique_over_two_leafs.Goals as goal

pub returns-clause-both : goal.returns-clause-both
unfolding closest first through_plain from_list is_there
returns-clause-both c = refl

pub returns-clause-one : goal.returns-clause-one
unfolding closest first through_plain from_list is_there
returns-clause-one c = refl

pub returns-clause-not_all : goal.returns-clause-not_all
unfolding closest first through_plain from_list is_there
returns-clause-not_all c = refl
