-- The members so far.
use Rattle.std.proofs.Common.{take, map, filter}
use Rattle.sal_module.specs.declared.keyword.Keyword.TheVariants as word
use Rattle.sal_module.specs.Statements.{is_named, subs_of}
use Rattle.sal_typedefs.specs.Scopes.{within}
use Rattle.sal_typedefs.specs.Spots.{site_of}
use Rattle.sal_typedefs.specs.Opened.{world}
use Rattle.sal_typedefs.specs.Settled.{AreParts}
use Rattle.sal_typedefs.proofs.scope.+settle.Given as goal

abbrev pub decreases-settle : goal.decreases-settle
decreases-settle l = l.levels

abbrev pub invariant-loop-sub : goal.invariant-loop-sub
invariant-loop-sub l = AreParts (world l.scope) (map (within (site_of l.spot)) (filter (is_named word.Type) (take l.sub-index (subs_of l.spot.stmt.now)))) l.parts
