use Rattle.std.proofs.Common.{ap, arith, length, length-drop}
use Rattle.sal_node.proofs.Rows.{listed-two}
use Rattle.sal_node.proofs.Newest.{row-parts}
use Rattle.sal_node.proofs.pages.add_pages.Goals as goal

pub add_page-requires-3-clause-few : goal.add_page-requires-3-clause-few
add_page-requires-3-clause-few c = omega (arith, length-drop c.args.parting c.args.page.children.items, ap length c.in_ok-last.ensures.tail, c.requires.few)

pub add_page-requires-2-clause-newest : goal.add_page-requires-2-clause-newest
add_page-requires-2-clause-newest c = rw c.in_ok-last.ensures.items (row-parts c.args.page.newest c.args.parting c.args.page.children.items c.requires.newest).0

pub add_page-requires-3-clause-newest : goal.add_page-requires-3-clause-newest
add_page-requires-3-clause-newest c = rw c.in_ok-last.ensures.tail (row-parts c.args.page.newest c.args.parting c.args.page.children.items c.requires.newest).1

pub returns-clause-list : goal.returns-clause-list
returns-clause-list c = listed-two c.args.into.now.items c.add_page-2.new.into.items c.add_page-3.new.into.items c.args.page.children.items c.split_off.new.self.items c.in_ok-last.last.items c.args.parting c.in_ok-last.ensures.items c.in_ok-last.ensures.tail c.in_ok-add_page.ensures.list c.in_ok-add_page-2.ensures.list
