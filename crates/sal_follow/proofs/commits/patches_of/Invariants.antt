-- The patches of the rows so far.
use Rattle.std.proofs.Common.{◌≡◌, map, take}
use Rattle.sal_follow.specs.Exporting.{patch_of}
use Rattle.sal_follow.proofs.commits.patches_of.Given as goal

abbrev pub invariant-loop-row : goal.invariant-loop-row
invariant-loop-row l = l.patches.items ≡ map patch_of (take l.row-index l.items)
