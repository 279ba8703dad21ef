use Rattle.std.specs.declared.sync.Arc.{Arc}
use Rattle.std.specs.declared.alloc.Global.{Global}
use Rattle.std.proofs.Common.{true, false, sym, ap, ◌∙◌}
use Rattle.std.specs.Prelude.{Some}
use Rattle.std.proofs.lemmas.List.{get_or_default}
use Rattle.sal_node.specs.declared.node.Child.{Child}
use Rattle.sal_node.proofs.Steps.{find-at, find-end, tie_of}
use Rattle.sal_node.proofs.pages.found.Goals as goal
use Rattle.sal_node.proofs.pages.found.Goals.{else-at-children-via-then-at-children+else-is_eq, else-at-children-via-else-at-children}

pub returns-then-is_eq : goal.returns-then-is_eq
returns-then-is_eq c =
    let same = get_or_default c.args.children.now c.place-at.result c.index-children-at-then-is_eq.result c.index-children-at.result c.if-at-children.true in
    ap (λ (d : Child). Some d.node.value) c.deref-then-is_eq.ensures ∙ ap (λ (d : Arc Child Global). Some d.value.node.value) (c.index-children-at-then-is_eq.is ∙ same ∙ sym c.index-children-at.is) ∙ find-at c.args.step.now c.args.children.now c.place-at.result c.index-children-at.result true c.requires c.place-at.ensures.value c.if-at-children.true c.index-children-at.is (tie_of true c.is_eq.result c.args.step.now c.index-children-at.result c.deref.result.now c.cmp.result c.deref.ensures c.cmp.ensures c.is_eq.ensures c.if-is_eq.true)

pub returns-else-at-children : goal.returns-else-at-children
returns-else-at-children c = elim c.else-at-children.branch [
  | else-at-children-via-then-at-children+else-is_eq w ↦ find-at c.args.step.now c.args.children.now c.place-at.result w.index-children-at.result false c.requires c.place-at.ensures.value w.if-at-children.true w.index-children-at.is (tie_of false w.is_eq.result c.args.step.now w.index-children-at.result w.deref.result.now w.cmp.result w.deref.ensures w.cmp.ensures w.is_eq.ensures w.if-is_eq.false)
  | else-at-children-via-else-at-children w ↦ find-end c.args.step.now c.args.children.now c.place-at.result c.place-at.ensures.value w.if-at-children.false
]
