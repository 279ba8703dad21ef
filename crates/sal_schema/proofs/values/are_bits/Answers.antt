use Rattle.std.proofs.Common.{sym, arith}
use Rattle.sal_schema.specs.Values.{is_taken}
use Rattle.sal_schema.proofs.Below.{all_below_none, all_below_more, all_below_fails}
use Rattle.sal_schema.proofs.values.are_bits.Goals as goal

pub loop-position-init : goal.loop-position-init
loop-position-init c = all_below_none (is_taken c.args.positions.now c.args.set)

pub loop-position-preserved : goal.loop-position-preserved
loop-position-preserved c = all_below_more (is_taken c.args.positions.now c.args.set) c.loop-position.position c.loop-position.invariant (sym c.if-not-is_taken.ensures)

pub returns-then-not-is_taken : goal.returns-then-not-is_taken
returns-then-not-is_taken c = sym (all_below_fails (is_taken c.args.positions.now c.args.set) c.loop-position.position 64 (omega arith) (sym c.if-not-is_taken.ensures))
