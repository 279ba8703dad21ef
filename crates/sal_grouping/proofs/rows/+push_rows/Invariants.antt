-- The statements so far.
use Rattle.std.proofs.Common.{◌≡◌, ◌-◌, take}
use Rattle.sal_module.specs.Statements.{subs_of}
use Rattle.sal_grouping.proofs.RowLists.{in_block}
use Rattle.sal_grouping.proofs.rows.+push_rows.Given as goal

abbrev pub invariant-loop-sub : goal.invariant-loop-sub
invariant-loop-sub l = l.rows.items ≡ in_block (l.levels - 1) l.module l.number l.initial.rows.items (take l.sub-index (subs_of l.stmt))
