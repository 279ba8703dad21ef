use Rattle.std.proofs.Common.{codes, map}
use Rattle.serde_json.specs.View.{view, members_view}
use Rattle.sal_script.specs.Moves.{clients_of}
use Rattle.sal_script.specs.Script.{list_member}
use Rattle.sal_script.proofs.JsonRead.{clients_read}
use Rattle.sal_script.proofs.Limits.{within}
use Rattle.sal_script.proofs.Readers.{data_in}
use Rattle.sal_script.proofs.read.clients_in.Goals as goal

pub returns-clause-limits : goal.returns-clause-limits
returns-clause-limits c =
    let ms = members_view c.args.members.now.entries in
    let made = rw c.deref.ensures.value at c.in_ok-clients.ensures in
    within (codes "clients") (list_member (codes "clients") ms) (map view c.in_ok-listed.listed.now) (map data_in c.in_ok-programs.programs.items) c.in_ok-clients.clients.items c.in_ok-listed.ensures c.in_ok-programs.ensures made

pub returns-clause-json : goal.returns-clause-json
returns-clause-json c =
    let ms = members_view c.args.members.now.entries in
    let made = rw c.deref.ensures.value at c.in_ok-clients.ensures in
    clients_read ms c.requires (map view c.in_ok-listed.listed.now) (map data_in c.in_ok-programs.programs.items) (clients_of c.in_ok-clients.clients.items) c.in_ok-listed.ensures c.in_ok-programs.ensures made
