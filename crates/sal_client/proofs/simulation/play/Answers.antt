-- The clients begin, follow the order, and reach their ends.
use Rattle.std.proofs.Common.{◌≡◌, sym, ◌∙◌, ap}
use Rattle.sal_script.specs.Moves.{clients_of}
use Rattle.sal_script.specs.Play.{play}
use Rattle.sal_client.specs.Runs.{PlaysAs}
use Rattle.sal_client.proofs.Faults.{err_so}
use Rattle.sal_client.proofs.Playing.{plays_from_start, plays_to_end, wanting}
use Rattle.sal_client.proofs.simulation.play.Goals as goal

pub returns-in_err-simulation : goal.returns-in_err-simulation
returns-in_err-simulation g c =
    let known = c.args.hub in
    let played = play known.world (clients_of c.args.script.now.clients) c.args.script.now.order in
    let e = c.in_err-simulation.field-0.0 in
    err_so (λ r. PlaysAs known.world r played) _ e c.from_residual.ensures.1 (wanting known.world e played c.in_err-simulation.ensures)
