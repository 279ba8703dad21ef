-- What is left of both.
use Rattle.std.proofs.Common.{◌≡◌, true, drop}
use Rattle.std.specs.List.{list_all}
use Rattle.sal_restrict.specs.Ranges.{is_ascending, covers}
use Rattle.sal_restrict.proofs.covers.all_covered.Given as goal

abbrev pub invariant-loop-part : goal.invariant-loop-part
invariant-loop-part l = record {
  order : is_ascending l.rest ≡ true;
  value : list_all (covers l.within) l.parts ≡ list_all (covers l.rest) (drop l.part-index l.parts);
}
