use Rattle.std.proofs.Common.{arith, ap, length, length-append, [], ◌∷◌}
use Rattle.sal_node.proofs.Rows.{listed-more, ArePages-more}
use Rattle.sal_node.proofs.pages.share_pages.Goals as goal

pub loop-page-preserved : goal.loop-page-preserved
loop-page-preserved c = record {
  list = listed-more c.loop-page.into.items c.args.pages.now c.loop-page.page-index c.page-item.result c.in_ok-page.page c.args.into.now.items c.push.new.self.items (omega arith) c.page-item.is c.in_ok-page.ensures c.loop-page.invariant.list c.in_ok-push.ensures.items;
  pages = ArePages-more c.loop-page.into.items c.args.pages.now c.loop-page.page-index c.page-item.result c.in_ok-page.page c.push.new.self.items (omega arith) c.page-item.is c.in_ok-page.ensures c.loop-page.invariant.pages c.requires.given c.in_ok-push.ensures.items;
  count = omega (arith, ap length c.in_ok-push.ensures.items, c.loop-page.invariant.count, length-append c.loop-page.into.items (c.in_ok-page.page ∷ []));
}
