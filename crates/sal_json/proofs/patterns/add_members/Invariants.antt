-- The patterns of the members so far are appended, and none is malformed.
use Rattle.std.proofs.Common.{◌≡◌, ◌++◌, false, map, take}
use Rattle.std.specs.List.{list_any}
use Rattle.sal_json.specs.Patterns.{have_malformed, plain_patterns, plain_searched}
use Rattle.sal_json.proofs.patterns.add_members.Given as goal

abbrev pub invariant-loop-member : goal.invariant-loop-member
invariant-loop-member l = (l.list.items ≡ l.initial.list.items ++ map plain_searched (take l.member-index l.members)) × (list_any have_malformed (map plain_patterns (take l.member-index l.members)) ≡ false)
