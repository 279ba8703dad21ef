use Rattle.std.proofs.Common.{◌≡◌, ◌++◌, take}
use Rattle.sal_node.specs.Shape.{listed, seen}
use Rattle.sal_node.proofs.pages.push_pages.Given as goal

abbrev pub invariant-loop-page : goal.invariant-loop-page
invariant-loop-page l = seen l.into.items ≡ seen l.initial.into.items ++ listed (take l.page-index l.pages)
