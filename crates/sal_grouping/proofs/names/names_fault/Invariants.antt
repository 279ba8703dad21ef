use Rattle.std.proofs.Common.{◌≡◌, take, None}
use Rattle.sal_module.specs.Faults.{least}
use Rattle.sal_grouping.specs.declared.rows.Row.{Row}
use Rattle.sal_grouping.specs.Names.{row_faults}
use Rattle.sal_grouping.proofs.Places.{numbered}
use Rattle.sal_grouping.proofs.names.names_fault.Given as goal

abbrev pub invariant-loop-k : goal.invariant-loop-k
invariant-loop-k l = l.best ≡ least None (numbered (λ k (row : Row). row_faults l.modules l.t.rows.items k row row.keyword) 0 (take l.k l.t.rows.items))
