-- Each example by computation.
use Rattle.std.proofs.Common.{refl}
use Rattle.sal_schema.specs.Table.{closest}
use Rattle.sal_rules.specs.Breaches.{first}
use Rattle.sal_rules.specs.Contexts.{through_plain, from_list}
use Rattle.sal_rules.specs.Rules.{is_there}
use Rattle.sal_rules.proofs.examples.mandatory_below_containers.Goals as goal

pub returns-clause-absent : goal.returns-clause-absent
unfolding closest first through_plain from_list is_there
returns-clause-absent c = refl

pub returns-clause-present : goal.returns-clause-present
unfolding closest first through_plain from_list is_there
returns-clause-present c = refl

pub returns-clause-inner_absent : goal.returns-clause-inner_absent
unfolding closest first through_plain from_list is_there
returns-clause-inner_absent c = refl

pub returns-clause-below_presence : goal.returns-clause-below_presence
unfolding closest first through_plain from_list is_there
returns-clause-below_presence c = refl

pub returns-clause-top_leaf : goal.returns-clause-top_leaf
unfolding closest first through_plain from_list is_there
returns-clause-top_leaf c = refl
