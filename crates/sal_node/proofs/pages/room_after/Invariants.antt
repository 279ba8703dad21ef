use Rattle.std.proofs.Common.{◌≡◌, ◌+◌, length, take}
use Rattle.sal_node.specs.Shape.{listed}
use Rattle.sal_node.proofs.pages.room_after.Given as goal

abbrev pub invariant-loop-page : goal.invariant-loop-page
invariant-loop-page l = l.left + length (listed (take l.page-index l.pages)) ≡ l.room
