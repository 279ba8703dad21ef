use Rattle.std.proofs.Common.{sym, subst, Some, None}
use Rattle.sal_types.specs.Tree.{IsAscending}
use Rattle.sal_rows.proofs.Patched.{ascending-with_cell}
use Rattle.sal_rows.proofs.rows.patch.patch_one.Goals as goal

pub returns-in-None-clause-order : goal.returns-in-None-clause-order
returns-in-None-clause-order c = subst IsAscending (sym c.take_out.ensures.rows) (ascending-with_cell c.args.rows.now.items c.args.patch.path None c.requires.order)

pub returns-in-Some-clause-order : goal.returns-in-Some-clause-order
returns-in-Some-clause-order c = subst IsAscending (sym c.put_in.ensures.rows) (ascending-with_cell c.args.rows.now.items c.args.patch.path (Some c.in-Some.cell) c.requires.order)
