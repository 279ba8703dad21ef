-- Each example by computation.
use Rattle.std.proofs.Common.{refl}
use Rattle.sal_schema.specs.Table.{closest}
use Rattle.sal_rules.specs.Breaches.{first}
use Rattle.sal_rules.specs.Contexts.{through_plain, from_list}
use Rattle.sal_rules.specs.Rules.{is_there}
use Rattle.sal_rules.proofs.examples.contexts.Goals as goal

pub returns-clause-of_a_list : goal.returns-clause-of_a_list
unfolding closest first through_plain from_list is_there
returns-clause-of_a_list c = refl

pub returns-clause-of_a_case : goal.returns-clause-of_a_case
unfolding closest first through_plain from_list is_there
returns-clause-of_a_case c = refl

pub returns-clause-stands_at_the_entry : goal.returns-clause-stands_at_the_entry
unfolding closest first through_plain from_list is_there
returns-clause-stands_at_the_entry c = refl

pub returns-clause-of_a_presence_container : goal.returns-clause-of_a_presence_container
unfolding closest first through_plain from_list is_there
returns-clause-of_a_presence_container c = refl

pub returns-clause-way_through_a_container : goal.returns-clause-way_through_a_container
unfolding closest first through_plain from_list is_there
returns-clause-way_through_a_container c = refl

pub returns-clause-none : goal.returns-clause-none
unfolding closest first through_plain from_list is_there
returns-clause-none c = refl

pub returns-clause-way_from_the_top : goal.returns-clause-way_from_the_top
unfolding closest first through_plain from_list is_there
returns-clause-way_from_the_top c = refl
