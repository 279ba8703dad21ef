-- The first blocks.
use Rattle.std.proofs.Common.{◌≡◌, take}
use Rattle.sal_typedefs.proofs.spot.copies.Given as goal

abbrev pub invariant-loop-block : goal.invariant-loop-block
invariant-loop-block l = l.copy.items ≡ take l.block-index l.list
