use Rattle.std.proofs.Common.{◌∙◌, ◌-◌, Bool, Some, length, ap, arith, if◌then◌else◌}
use Rattle.sal_grouping.specs.declared.forest.Branch.{Branch}
use Rattle.sal_module_table.specs.Children.{data_key, is_found_by}
use Rattle.sal_module_table.proofs.FromLast.{first_of_last, one-before, all-done}
use Rattle.sal_module_table.proofs.child.data_children_of.Goals as goal

pub loop-done-preserved : goal.loop-done-preserved
loop-done-preserved c q =
    let forest = c.args.forest.now in
    let done = c.loop-done.done in
    let k = length forest - 1 - done in
    let p : Branch → Bool = λ b. is_found_by q (data_key c.args.modules.now c.args.forest.now b) in
    c.in_ok-put.ensures q ∙ ap (λ r. if is_found_by q c.in_ok-key.key then Some k else r) (c.loop-done.invariant q)
    ∙ ap (λ key. if is_found_by q key then Some k else first_of_last p forest done) c.in_ok-key.ensures
    ∙ one-before p forest done c.branch_at-branch.result.now c.loop-done-test.true c.branch_at-branch.ensures

pub returns : goal.returns
returns c q = c.loop-done.invariant q ∙ all-done (λ (b : Branch). is_found_by q (data_key c.args.modules.now c.args.forest.now b)) c.args.forest.now c.loop-done.done (omega arith)
