-- The replies of the clients so far.
use Rattle.std.proofs.Common.{◌≡◌, map}
use Rattle.sal_client.specs.Runs.{replies_in}
use Rattle.sal_client.proofs.simulation.into_replies.Given as goal

abbrev pub invariant-loop-run : goal.invariant-loop-run
invariant-loop-run l = l.replies.items ≡ map replies_in l.yielded
