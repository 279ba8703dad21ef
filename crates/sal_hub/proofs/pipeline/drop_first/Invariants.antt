-- The first ones are dropped.
use Rattle.std.proofs.Common.{◌≡◌, drop}
use Rattle.sal_hub.proofs.pipeline.drop_first.Given as goal

abbrev pub invariant-loop : goal.invariant-loop
invariant-loop l = l.waiting.items ≡ drop l.counter l.fn.waiting.items
