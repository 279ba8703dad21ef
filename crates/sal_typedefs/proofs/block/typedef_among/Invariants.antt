-- The remaining elements to search.
use Rattle.std.proofs.Common.{◌≡◌, drop}
use Rattle.std.specs.Prelude.{find}
use Rattle.sal_typedefs.specs.Scopes.{is_typedef_of}
use Rattle.sal_typedefs.proofs.block.typedef_among.Given as goal

abbrev pub invariant-loop-sub : goal.invariant-loop-sub
invariant-loop-sub l = find (is_typedef_of l.name) l.subs ≡ find (is_typedef_of l.name) (drop l.sub-index l.subs)
