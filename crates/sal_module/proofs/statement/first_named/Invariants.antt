-- The remaining elements to search.
use Rattle.std.proofs.Common.{◌≡◌, drop}
use Rattle.std.specs.Prelude.{find}
use Rattle.sal_module.specs.Statements.{is_named}
use Rattle.sal_module.proofs.statement.first_named.Given as goal

abbrev pub invariant-loop-sub : goal.invariant-loop-sub
invariant-loop-sub l = find (is_named l.fn.keyword) l.subs ≡ find (is_named l.fn.keyword) (drop l.sub-index l.subs)
