use Rattle.std.proofs.Common.{true, false, arith}
use Rattle.sal_node.proofs.Steps.{after-at, after-end, place-le, tie_of}
use Rattle.sal_node.proofs.pages.past.Goals as goal
use Rattle.sal_node.proofs.pages.past.Goals.{else-at-children-via-then-at-children+else-is_eq, else-at-children-via-else-at-children}

pub returns-then-is_eq-clause-value : goal.returns-then-is_eq-clause-value
returns-then-is_eq-clause-value c = after-at c.args.step.now c.args.children.now c.args.at c.index-children-at.result true c.requires c.if-at-children.true c.index-children-at.is (tie_of true c.is_eq.result c.args.step.now c.index-children-at.result c.deref.result.now c.cmp.result c.deref.ensures c.cmp.ensures c.is_eq.ensures c.if-is_eq.true)

pub returns-else-at-children-clause-value : goal.returns-else-at-children-clause-value
returns-else-at-children-clause-value c = elim c.else-at-children.branch [
  | else-at-children-via-then-at-children+else-is_eq w ↦ after-at c.args.step.now c.args.children.now c.args.at w.index-children-at.result false c.requires w.if-at-children.true w.index-children-at.is (tie_of false w.is_eq.result c.args.step.now w.index-children-at.result w.deref.result.now w.cmp.result w.deref.ensures w.cmp.ensures w.is_eq.ensures w.if-is_eq.false)
  | else-at-children-via-else-at-children w ↦ after-end c.args.step.now c.args.children.now c.args.at c.requires w.if-at-children.false
]

pub returns-else-at-children-clause-bound : goal.returns-else-at-children-clause-bound
returns-else-at-children-clause-bound c = omega (arith, place-le c.args.step.now c.args.children.now, c.requires)
