use Rattle.sal_note.proofs.Reached.{offered-to-each, refused-to-all}
use Rattle.sal_note.proofs.laws.offers_reach_each_subscriber_once.Goals as goal

pub returns-clause-each : goal.returns-clause-each
returns-clause-each c = offered-to-each

pub returns-clause-none : goal.returns-clause-none
returns-clause-none c = refused-to-all
