-- The copies made so far are the first statements.
use Rattle.std.proofs.Common.{◌≡◌, take}
use Rattle.sal_stmt.proofs.stmt.Stmt.+copy.Given as goal

abbrev pub invariant-loop-sub : goal.invariant-loop-sub
invariant-loop-sub l = l.subs.items ≡ take l.sub-index l.sub-items
