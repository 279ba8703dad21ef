-- One of the texts has ended before the other.
use Rattle.std.proofs.Common.{sym, ◌∙◌, arith}
use Rattle.sal_order.proofs.Indices.{difference-long, difference-short}
use Rattle.sal_order.proofs.differing.difference.Goals as goal

pub returns-then-i-other : goal.returns-then-i-other
returns-then-i-other c = sym (difference-short c.loop-i.line c.loop-i.i c.args.text.now c.args.other.now (omega arith) (omega arith)) ∙ c.loop-i.invariant.same

pub returns-then-text-other : goal.returns-then-text-other
returns-then-text-other c = sym (difference-long c.loop-i.line c.loop-i.i c.args.text.now c.args.other.now (omega arith) (omega arith)) ∙ c.loop-i.invariant.same
