use Rattle.std.proofs.Common.{◌≡◌, true, take}
use Rattle.std.specs.List.{list_all}
use Rattle.sal_schema.specs.Fitting.{prefixes}
use Rattle.sal_near.specs.Near.{is_whole_if_there}
use Rattle.sal_near.proofs.near.is_whole_to.Given as goal

abbrev pub invariant-loop-len : goal.invariant-loop-len
invariant-loop-len l = list_all (is_whole_if_there l.schema l.rows) (take l.len (prefixes l.steps)) ≡ true
