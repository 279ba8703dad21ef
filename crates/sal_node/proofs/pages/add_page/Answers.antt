use Rattle.std.proofs.Common.{ap}
use Rattle.sal_node.specs.declared.node.Page.{Page}
use Rattle.sal_node.proofs.Rows.{listed-push, ArePages-push}
use Rattle.sal_node.proofs.pages.add_page.Goals as goal

pub returns-clause-list : goal.returns-clause-list
returns-clause-list c = listed-push c.args.into.now.items c.in_ok-page.page c.args.page.children.items _ (ap (λ (p : Page). p.children.items) c.in_ok-page.ensures.ok) c.in_ok-push.ensures.items

pub returns-clause-pages : goal.returns-clause-pages
returns-clause-pages c = ArePages-push c.args.into.now.items c.in_ok-page.page c.args.page.children.items _ (ap (λ (p : Page). p.children.items) c.in_ok-page.ensures.ok) c.in_ok-push.ensures.items c.requires.some c.requires.few (rw (ap (λ (p : Page). p.newest) c.in_ok-page.ensures.ok) c.requires.newest) c.requires.old
