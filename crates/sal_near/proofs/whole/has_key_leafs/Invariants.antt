-- All are present if those that are left are.
use Rattle.std.proofs.Common.{◌≡◌, drop}
use Rattle.sal_schema.specs.Fitting.{has_key_leafs}
use Rattle.sal_near.proofs.whole.has_key_leafs.Given as goal

abbrev pub invariant-loop-i : goal.invariant-loop-i
invariant-loop-i l = has_key_leafs l.rows l.steps l.leafs l.values ≡ has_key_leafs l.rows l.steps (drop l.i l.leafs) (drop l.i l.values)
