use Rattle.std.proofs.Common.{arith, ap, ◌∙◌}
use Rattle.sal_node.specs.declared.node.Page.{Page}
use Rattle.sal_node.proofs.Rows.{listed-next}
use Rattle.sal_node.proofs.pages.push_pages.Goals as goal

pub loop-page-preserved : goal.loop-page-preserved
loop-page-preserved c = listed-next c.loop-page.into.items c.args.pages.now c.loop-page.page-index c.page-item.result c.deref-in-loop-page.result.now c.args.into.now.items c.push_children.new.into.items (omega arith) c.page-item.is (c.deref-in-loop-page.ensures.value ∙ ap (λ (p : Page). p.children.items) c.deref.ensures) c.loop-page.invariant c.in_ok-push_children.ensures
