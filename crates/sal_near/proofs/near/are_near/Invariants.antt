use Rattle.std.proofs.Common.{◌≡◌, true, take}
use Rattle.std.specs.List.{list_all}
use Rattle.sal_near.specs.Near.{is_near, is_whole_to}
use Rattle.sal_near.proofs.near.are_near.Given as goal

abbrev pub invariant-loop-patch : goal.invariant-loop-patch
invariant-loop-patch l = record {
  done : list_all (is_near l.schema l.rows) (take l.patch-index l.patches) ≡ true;
  whole : is_whole_to l.schema l.rows l.before ≡ true;
}
