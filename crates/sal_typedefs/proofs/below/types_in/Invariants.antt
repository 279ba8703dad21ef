-- The first ones.
use Rattle.std.proofs.Common.{◌≡◌, take, map, filter}
use Rattle.sal_module.specs.declared.keyword.Keyword.TheVariants as word
use Rattle.sal_module.specs.Statements.{is_named, subs_of}
use Rattle.sal_typedefs.specs.Scopes.{within}
use Rattle.sal_typedefs.specs.Spots.{site_of}
use Rattle.sal_typedefs.proofs.below.types_in.Given as goal

abbrev pub invariant-loop-sub : goal.invariant-loop-sub
invariant-loop-sub l = map site_of l.all.items ≡ map (within (site_of l.spot)) (filter (is_named word.Type) (take l.sub-index (subs_of l.spot.stmt.now)))
