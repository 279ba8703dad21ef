-- The text passes the patterns so far.
use Rattle.std.proofs.Common.{◌≡◌, true, take}
use Rattle.std.specs.List.{list_all}
use Rattle.sal_json.specs.Patterns.{passes}
use Rattle.sal_json.proofs.patterns.all_pass.Given as goal

abbrev pub invariant-loop-i : goal.invariant-loop-i
invariant-loop-i l = list_all (passes l.text) (take l.i l.patterns) ≡ true
