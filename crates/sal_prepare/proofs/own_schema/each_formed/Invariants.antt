-- No version before has a malformed pattern.
use Rattle.std.proofs.Common.{◌≡◌, false, take}
use Rattle.std.specs.List.{list_any}
use Rattle.sal_client.specs.Malformed.{is_malformed}
use Rattle.sal_prepare.specs.Scripted.{tables_in}
use Rattle.sal_prepare.proofs.own_schema.each_formed.Given as goal

abbrev pub invariant-loop-version : goal.invariant-loop-version
invariant-loop-version l = list_any is_malformed (take l.version (tables_in l.versions)) ≡ false
