-- What is left to look at, beside those of the set.
use Rattle.std.proofs.Common.{◌≡◌, drop}
use Rattle.std.specs.Ordering.{eq_by_cmp}
use Rattle.sal_schema.specs.Valid.{all_differ}
use Rattle.sal_schema_of_table.proofs.Doubles.{fresh, has}
use Rattle.sal_schema_of_table.proofs.distinct.all_differ.Given as goal

abbrev pub invariant-loop-item : goal.invariant-loop-item
invariant-loop-item g l = fresh g.K.Ord.cmp (has g.K.Ord.cmp l.seen) (drop l.item-index l.items) ≡ all_differ (eq_by_cmp g.K.Ord.cmp) l.items
