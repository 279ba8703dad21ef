-- The rest of the climb gives the context.
use Rattle.std.proofs.Common.{◌≡◌, ◌<◌, ◌-◌, length, not}
use Rattle.std.specs.Prelude.{IfSome}
use Rattle.sal_schema.specs.Table.{closest}
use Rattle.sal_rules.specs.Contexts.{context, is_plain}
use Rattle.sal_check.proofs.climb.context.Given as goal

abbrev pub invariant-loop-done : goal.invariant-loop-done
invariant-loop-done l = record {
  rest : closest (λ kind. not (is_plain kind)) l.schema (length l.schema.nodes - l.done) l.here ≡ context l.schema l.node;
  within : IfSome l.here (λ p. p < length l.schema.nodes);
}
