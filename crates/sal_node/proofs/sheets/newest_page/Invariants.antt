use Rattle.std.proofs.Common.{take}
use Rattle.sal_node.specs.Shape.{listed, UpTo}
use Rattle.sal_node.proofs.sheets.newest_page.Given as goal

abbrev pub invariant-loop-page : goal.invariant-loop-page
invariant-loop-page l = UpTo l.newest (listed (take l.page-index l.pages))
