-- The patches of the changes so far.
use Rattle.std.proofs.Common.{◌≡◌, map}
use Rattle.sal_follow.specs.Framed.{patch_by}
use Rattle.sal_follow.proofs.commits.patches_by.Given as goal

abbrev pub invariant-loop-change : goal.invariant-loop-change
invariant-loop-change l = l.patches.items ≡ map patch_by l.yielded
