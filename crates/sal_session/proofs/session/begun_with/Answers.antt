-- The leader is new.
use Rattle.sal_session.proofs.session.begun_with.Goals as goal

pub returns-clause-role : goal.returns-clause-role
returns-clause-role c = (c.first-leader.ensures.broker, c.first-leader.ensures.first)
