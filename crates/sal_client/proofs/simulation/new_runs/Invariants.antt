-- So many clients are at their beginning, each with its index as its number.
use Rattle.std.proofs.Common.{◌≡◌, ℕ, ◌<◌, length, get_or}
use Rattle.sal_client.specs.declared.run.ClientRun.{ClientRun}
use Rattle.sal_client.proofs.Standing.{IsFresh}
use Rattle.sal_client.proofs.simulation.new_runs.Given as goal

abbrev pub invariant-loop-i : goal.invariant-loop-i
invariant-loop-i l = record {
  long : length l.runs.items ≡ l.i;
  each : (k : ℕ) (r : ClientRun) → k < length l.runs.items → r ≡ get_or l.runs.items k r → IsFresh r × (r.client.number ≡ k);
}
