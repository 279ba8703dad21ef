use Rattle.std.proofs.Common.{arith, ap}
use Rattle.sal_node.specs.declared.node.Page.{Page}
use Rattle.sal_node.proofs.Newest.{UpTo-page}
use Rattle.sal_node.proofs.sheets.newest_page.Goals as goal

pub loop-page-preserved : goal.loop-page-preserved
loop-page-preserved c = UpTo-page c.args.pages.now c.loop-page.page-index c.page-item.result c.loop-page.newest c.deref.result.now.newest c.larger-newest.result c.requires (omega arith) c.page-item.is (ap (λ (p : Page). p.newest) c.deref.ensures) c.larger-newest.ensures.one c.larger-newest.ensures.other c.loop-page.invariant
