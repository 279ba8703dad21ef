-- The patterns so far are appended, and none is malformed.
use Rattle.std.proofs.Common.{◌≡◌, ◌++◌, false, map, take}
use Rattle.sal_json.specs.Patterns.{have_malformed, searched}
use Rattle.sal_json.proofs.patterns.add_patterns.Given as goal

abbrev pub invariant-loop-pattern : goal.invariant-loop-pattern
invariant-loop-pattern l = (l.list.items ≡ l.initial.list.items ++ map searched (take l.pattern-index l.patterns)) × (have_malformed (take l.pattern-index l.patterns) ≡ false)
