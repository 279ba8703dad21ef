-- The patterns of the type and those of the first statements.
use Rattle.std.proofs.Common.{◌≡◌, ◌++◌, take, map, filter}
use Rattle.sal_module.specs.declared.keyword.Keyword.TheVariants as word
use Rattle.sal_module.specs.Statements.{is_named, subs_of}
use Rattle.sal_typedefs.specs.Types.{pattern_of}
use Rattle.sal_typedefs.proofs.narrowing.with_patterns_of.Given as goal

abbrev pub invariant-loop-sub : goal.invariant-loop-sub
invariant-loop-sub l = l.all.items ≡ l.patterns ++ map pattern_of (filter (is_named word.Pattern) (take l.sub-index (subs_of l.stmt)))
