-- The rest of the path, and the byte before it.
use Rattle.std.proofs.Common.{◌≡◌, drop}
use Rattle.sal_module.specs.LeftOut.{calls_deref_after}
use Rattle.sal_module.proofs.left_out.calls_deref.Given as goal

abbrev pub invariant-loop-i : goal.invariant-loop-i
invariant-loop-i l = calls_deref_after 0 l.path ≡ calls_deref_after l.before (drop l.i l.path)
