use Rattle.std.proofs.Common.{List, ap, ◌∙◌, sym}
use Rattle.std.specs.FinMap.{find}
use Rattle.std.specs.declared.sync.Arc.{Arc}
use Rattle.std.specs.declared.alloc.Global.{Global}
use Rattle.sal_types.specs.Order.{step_cmp}
use Rattle.sal_node.specs.declared.node.Sheet.{Sheet}
use Rattle.sal_node.specs.declared.node.Page.{Page}
use Rattle.sal_node.specs.Shape.{listed}
use Rattle.sal_node.proofs.Placed.{find-placed, sheet-sorted, sheet-fits}
use Rattle.sal_node.proofs.sheets.child_in.Goals as goal

pub child_at-requires-clause-old : goal.child_at-requires-clause-old
child_at-requires-clause-old c = rw (c.deref-2.ensures.value, c.deref.ensures) (sheet-fits c.args.sheets.now c.target_sheet-at.result c.index-sheets-at.result c.target_sheet-at.ensures.bound c.index-sheets-at.is c.requires.old).2

pub child_at-requires-clause-sorted : goal.child_at-requires-clause-sorted
child_at-requires-clause-sorted c = rw (c.deref-2.ensures.value, c.deref.ensures) (sheet-sorted c.args.sheets.now c.target_sheet-at.result c.index-sheets-at.result c.target_sheet-at.ensures.bound c.index-sheets-at.is c.requires.sorted)

pub returns : goal.returns
returns c = c.child_at.ensures ∙ ap (λ (ps : List (Arc Page Global)). find step_cmp c.args.step.now (listed ps)) (c.deref-2.ensures.value ∙ ap (λ (s : Sheet). s.pages.items) c.deref.ensures) ∙ sym (find-placed c.args.sheets.now c.args.step.now c.target_sheet-at.result c.index-sheets-at.result c.target_sheet-at.ensures c.index-sheets-at.is c.requires.old c.requires.sorted)
