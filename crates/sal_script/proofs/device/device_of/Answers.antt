use Rattle.serde_json.specs.View.{view, members_view}
use Rattle.sal_script.proofs.JsonRead.{device_read}
use Rattle.sal_script.proofs.device.device_of.Goals as goal

pub with_openings-requires-clause-json : goal.with_openings-requires-clause-json
with_openings-requires-clause-json c = device_read (view c.args.value.now) c.requires (members_view c.in_ok-members.members.now.entries) c.in_ok-members.ensures
