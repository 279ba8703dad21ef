-- The identity is derived from the bases so far.
use Rattle.std.proofs.Common.{◌≡◌, true, take}
use Rattle.std.specs.List.{list_all}
use Rattle.sal_schema.specs.Table.{is_derived}
use Rattle.sal_json.proofs.named.takes_identity.Given as goal

abbrev pub invariant-loop-base : goal.invariant-loop-base
invariant-loop-base l = list_all (is_derived l.schema l.identity) (take l.base-index l.bases) ≡ true
