use Rattle.std.specs.declared.sync.Arc.{Arc}
use Rattle.std.specs.declared.alloc.Global.{Global}
use Rattle.std.proofs.Common.{List, ap, ◌∙◌, sym}
use Rattle.std.specs.FinMap.{find}
use Rattle.sal_types.specs.Order.{step_cmp}
use Rattle.sal_node.specs.declared.node.Page.{Page}
use Rattle.sal_node.specs.declared.node.Child.{Child}
use Rattle.sal_node.specs.Shape.{row_of}
use Rattle.sal_node.proofs.Targets.{find-target, page-sorted}
use Rattle.sal_node.proofs.pages.child_at.Goals as goal

pub found-requires : goal.found-requires
found-requires c = rw (c.deref-2.ensures.value, c.deref.ensures) (page-sorted c.args.pages.now c.target-at.result c.index-pages-at.result c.target-at.ensures.bound c.index-pages-at.is c.requires.sorted)

pub returns : goal.returns
returns c = c.found.ensures ∙ ap (λ (cs : List (Arc Child Global)). find step_cmp c.args.step.now (row_of cs)) (c.deref-2.ensures.value ∙ ap (λ (p : Page). p.children.items) c.deref.ensures) ∙ sym (find-target c.args.pages.now c.args.step.now c.target-at.result c.index-pages-at.result c.target-at.ensures c.index-pages-at.is c.requires.old c.requires.sorted)
