use Rattle.std.proofs.Common.{◌≡◌, ◌++◌, take}
use Rattle.sal_node.specs.Shape.{listed, seen, made_by}
use Rattle.sal_node.proofs.pages.push_made_pages.Given as goal

abbrev pub invariant-loop-page : goal.invariant-loop-page
invariant-loop-page l = seen l.into.items ≡ seen l.initial.into.items ++ made_by l.stamps (listed (take l.page-index l.pages))
