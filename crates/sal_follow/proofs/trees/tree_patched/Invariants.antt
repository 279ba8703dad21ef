use Rattle.std.proofs.Common.{◌≡◌, take}
use Rattle.sal_rows.specs.Patch.{patched}
use Rattle.sal_follow.proofs.trees.tree_patched.Given as goal

abbrev pub invariant-loop-patch : goal.invariant-loop-patch
invariant-loop-patch l = l.after ≡ patched l.rows (take l.patch-index l.patches)
