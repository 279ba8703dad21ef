use Rattle.std.proofs.Common.{codes}
use Rattle.serde_json.specs.View.{view, members_view}
use Rattle.sal_script.proofs.JsonRead.{opening_read}
use Rattle.sal_script.proofs.device.with_operational.Goals as goal

pub returns-clause-json : goal.returns-clause-json
returns-clause-json c = opening_read (codes "operational") (members_view c.args.members.now.entries) c.requires (view c.in_ok-operational.operational) c.in_ok-operational.ensures
