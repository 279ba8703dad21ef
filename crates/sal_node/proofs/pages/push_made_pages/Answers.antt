use Rattle.std.specs.declared.sync.Arc.{Arc}
use Rattle.std.specs.declared.alloc.Global.{Global}
use Rattle.std.proofs.Common.{List, take, arith, ap, ◌∙◌}
use Rattle.sal_node.specs.declared.node.Page.{Page}
use Rattle.sal_node.specs.declared.node.Child.{Child}
use Rattle.sal_node.specs.Shape.{row_of, listed, seen, made_by}
use Rattle.sal_node.proofs.Newest.{made-next, made-skip, made_by-none, page-step, page-upto}
use Rattle.sal_node.proofs.pages.push_made_pages.Goals as goal
use Rattle.std.specs.Prelude.{◌++◌}

pub loop-page-preserved-then-deref-least : goal.loop-page-preserved-then-deref-least
loop-page-preserved-then-deref-least c =
    made-skip c.args.stamps.now (seen c.args.into.now.items) (seen c.loop-page.into.items) (listed (take c.loop-page.page-index c.args.pages.now)) (row_of c.page-item.result.value.children.items) _
    (page-step c.args.pages.now c.loop-page.page-index c.page-item.result (omega arith) c.page-item.is) c.loop-page.invariant
    (made_by-none c.page-item.result.value.newest c.args.least c.args.stamps.now (row_of c.page-item.result.value.children.items)
    (page-upto c.args.pages.now c.loop-page.page-index c.page-item.result c.requires.pages (omega arith) c.page-item.is)
    (omega (arith, ap (λ (p : Page). p.newest) c.deref.ensures, c.if-deref-least.true)) c.requires.least)

pub loop-page-preserved : goal.loop-page-preserved
loop-page-preserved c =
    made-next c.args.stamps.now (seen c.args.into.now.items) (seen c.loop-page.into.items) (seen c.push_made.new.into.items) (listed (take c.loop-page.page-index c.args.pages.now)) (row_of c.page-item.result.value.children.items) _
    (page-step c.args.pages.now c.loop-page.page-index c.page-item.result (omega arith) c.page-item.is) c.loop-page.invariant
    (c.in_ok-push_made.ensures ∙ ap (λ (cs : List (Arc Child Global)). seen c.loop-page.into.items ++ made_by c.args.stamps.now (row_of cs)) (c.deref-in-loop-page-2.ensures.value ∙ ap (λ (p : Page). p.children.items) c.deref-in-loop-page.ensures))
