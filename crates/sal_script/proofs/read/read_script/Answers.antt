use Rattle.serde_json.specs.View.{view, members_view}
use Rattle.sal_script.proofs.JsonRead.{object_read}
use Rattle.sal_script.proofs.read.read_script.Goals as goal

pub parts_of-requires : goal.parts_of-requires
parts_of-requires c = object_read c.args.bytes.now (view c.in_ok-value.value) (members_view c.in_ok-members.members.entries) c.in_ok-value.ensures c.in_ok-members.ensures
