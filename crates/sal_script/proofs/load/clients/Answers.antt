use Rattle.sal_script.proofs.Loads.{json, within}
use Rattle.sal_script.proofs.load.clients.Goals as goal

pub returns-clause-limits : goal.returns-clause-limits
returns-clause-limits c = within c.args.rounds c.args.start c.in_ok-clients.clients.items c.requires.rounds c.in_ok-clients.ensures

pub returns-clause-json : goal.returns-clause-json
returns-clause-json c = rw c.in_ok-clients.ensures (json c.args.rounds c.args.start)
