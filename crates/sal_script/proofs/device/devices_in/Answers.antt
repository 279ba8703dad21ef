use Rattle.std.proofs.Common.{codes, map}
use Rattle.serde_json.specs.View.{view, members_view}
use Rattle.sal_script.specs.Script.{list_member}
use Rattle.sal_script.proofs.JsonRead.{listed_read}
use Rattle.sal_script.proofs.Limits.{few_devices}
use Rattle.sal_script.proofs.device.devices_in.Goals as goal

pub devices_of-requires : goal.devices_of-requires
devices_of-requires c = listed_read (members_view c.args.members.now.entries) c.requires (map view c.in_ok-listed.listed.now) c.in_ok-listed.ensures

pub returns-clause-few : goal.returns-clause-few
returns-clause-few c =
    few_devices (codes "devices") (list_member (codes "devices") (members_view c.args.members.now.entries)) (map view c.in_ok-listed.listed.now) c.in_ok-devices.devices.items c.in_ok-listed.ensures c.in_ok-devices.ensures
