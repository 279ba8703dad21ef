-- The seat stays at its lock and may split; the numbers from the next one on are not given yet.
use Rattle.std.proofs.Common.{◌≡◌, ◌≤◌, ◌<◌, ℕ, true}
use Rattle.sal_turn.specs.Lists.{In}
use Rattle.tests_turn.proofs.crowd.round.Given as goal

abbrev pub invariant-loop-number : goal.invariant-loop-number
invariant-loop-number g l = (l.seat.lock ≡ l.initial.seat.lock) × (l.seat.view.splits ≡ true) × ((k : ℕ) → l.number ≤ k → k < 8 → ¬ In k l.seat.view.given)
