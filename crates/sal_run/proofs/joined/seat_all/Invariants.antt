-- The seats given so far, and what is left of the giver.
use Rattle.std.proofs.Common.{◌≡◌, ◌∷◌}
use Rattle.sal_run.specs.Joined.{AreSeated, upto}
use Rattle.sal_run.proofs.joined.seat_all.Given as goal

abbrev pub invariant-loop-number : goal.invariant-loop-number
invariant-loop-number l = record {
  lock : l.opening.lock ≡ l.sal;
  view : l.opening.view ≡ record l.fn.opening.view { given = 65535 ∷ upto l.number };
  runs : AreSeated l.sal l.fn.opening.view l.number l.runs.items;
}
