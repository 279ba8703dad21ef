-- The rest of the climb gives the whole path.
use Rattle.std.proofs.Common.{◌≡◌, ◌<◌, ◌-◌, length}
use Rattle.std.specs.Prelude.{IfSome}
use Rattle.sal_rules.specs.Contexts.{way, through_plain}
use Rattle.sal_check.proofs.climb.way.Given as goal

abbrev pub invariant-loop-done : goal.invariant-loop-done
invariant-loop-done l = record {
  rest : through_plain l.schema (length l.schema.nodes - l.done) l.here l.steps.items ≡ way l.schema l.node;
  within : IfSome l.here (λ p. p < length l.schema.nodes);
}
