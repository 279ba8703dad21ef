use Rattle.std.proofs.Common.{◌≡◌, ℕ, ◌%◌, ◌^◌, []}
use Rattle.sal_turn.specs.Views.{at_stage}
use Rattle.sal_turn.specs.declared.view.Stage.TheVariants.{Idle, Waits}
use Rattle.sal_turn.proofs.turn.Turn.begin.Given as goal

abbrev pub invariant-loop : goal.invariant-loop
invariant-loop g l = (l.token.table_id ≡ l.initial.token.table_id) × (l.token.me.1 ≡ []) × (at_stage Idle l.token.me.0 ≡ at_stage Idle l.initial.token.me.0) × ((t : ℕ) × (l.token.me.0.stage ≡ Waits t) × (t % 2 ^ 64 ≡ l.ticket))
