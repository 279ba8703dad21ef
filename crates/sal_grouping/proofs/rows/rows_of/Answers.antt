use Rattle.std.proofs.Common.{◌≡◌, ◌∙◌, None, length, take, sym, ap, arith}
use Rattle.std.proofs.lemmas.Grind.{common_steps}
use Rattle.sal_grouping.specs.Rows.{with_rows, rows_of, top_of}
use Rattle.sal_grouping.proofs.RowLists.{rows_of-take}
use Rattle.sal_grouping.proofs.Places.{table-last}
use Rattle.sal_grouping.proofs.rows.rows_of.Goals as goal

pub loop-i-preserved : goal.loop-i-preserved
loop-i-preserved c =
    let stmts = c.args.stmts.now in
    let i = c.loop-i.i in
    let stmt = c.index-stmts-i.result in
    let before = c.loop-i.invariant.rows in
    let top : c.len.result ≡ top_of stmts i = let n : c.len.result ≡ length c.loop-i.rows.items = grind (arith, common_steps) in n ∙ ap length before in
    let more = table-last (top_of stmts) c.loop-i.tops.items i c.len.result c.loop-i.invariant.count top c.loop-i.invariant.tops in
    record {
      rows = c.in_ok-push_rows.ensures ∙ ap (λ rows. with_rows 64 i None rows stmt) before
          ∙ ap (λ s. with_rows 64 i None (rows_of (take i stmts)) s) c.index-stmts-i.is ∙ sym (rows_of-take stmts i stmt c.loop-i-test.true);
      count = grind (arith, common_steps);
      tops = rw c.in_ok-push.ensures.items more;
    }
