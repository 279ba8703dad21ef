-- The paths that a put, a merge, a delete and a read touch.
use Rattle.std.proofs.Common.{◌≡◌, false, ◌||◌, List, ap, sym, ◌∙◌}
use Rattle.sal_types.specs.declared.value.Step.{Step}
use Rattle.sal_types.specs.declared.row.Row.{Row}
use Rattle.sal_types.specs.Tree.{has}
use Rattle.sal_rows.specs.declared.op.Act.{Act}
use Rattle.sal_rows.specs.Touch.{op_touches}
use Rattle.sal_tree.specs.Rows.{rows_of}
use Rattle.sal_graft.specs.Rows.{is_cleared}
use Rattle.sal_graft.proofs.Setting.{put-touches, merge-touches, delete-touches, untouched-by_read}
use Rattle.sal_graft.proofs.touched.op_touches.Goals as goal

pub returns-else-lies_under : goal.returns-else-lies_under
returns-else-lies_under c =
    let q = c.args.steps.now in
    let none : has c.in-Put.rows q ≡ false = sym (c.lies_under.ensures ∙ ap (λ (l : List Row). has l q) c.items.ensures.all) ∙ c.if-lies_under.false in
    c.is_cleared.ensures ∙ ap (λ (p : List Step). is_cleared (rows_of c.args.before.now) p q) c.steps.ensures.all
    ∙ ap (λ b. b || is_cleared (rows_of c.args.before.now) c.args.op.now.path q) (sym none)
    ∙ put-touches c.args.before.now c.args.op.now.store c.args.op.now.path q c.in-Put.rows c.node.ensures.whole.ordered
    ∙ sym (ap (λ (a : Act). op_touches (rows_of c.args.before.now) (record { store = c.args.op.now.store; path = c.args.op.now.path; act = a }) q) c.in-Put.is)

pub returns-in-Merge : goal.returns-in-Merge
returns-in-Merge c =
    let q = c.args.steps.now in
    c.lies_under-in-Merge.ensures ∙ ap (λ (l : List Row). has l q) c.items-in-Merge.ensures.all
    ∙ merge-touches c.args.before.now c.args.op.now.store c.args.op.now.path q c.in-Merge.rows
    ∙ sym (ap (λ (a : Act). op_touches (rows_of c.args.before.now) (record { store = c.args.op.now.store; path = c.args.op.now.path; act = a }) q) c.in-Merge.is)

pub returns-in-Delete : goal.returns-in-Delete
returns-in-Delete c =
    let q = c.args.steps.now in
    c.is_cleared-in-Delete.ensures ∙ ap (λ (p : List Step). is_cleared (rows_of c.args.before.now) p q) c.steps-in-Delete.ensures.all
    ∙ delete-touches c.args.before.now c.args.op.now.store c.args.op.now.path q c.node.ensures.whole.ordered
    ∙ sym (ap (λ (a : Act). op_touches (rows_of c.args.before.now) (record { store = c.args.op.now.store; path = c.args.op.now.path; act = a }) q) c.in-Delete.is)

pub returns-in-Read : goal.returns-in-Read
returns-in-Read c =
    let q = c.args.steps.now in
    untouched-by_read c.args.before.now c.args.op.now.store c.args.op.now.path q
    ∙ sym (ap (λ (a : Act). op_touches (rows_of c.args.before.now) (record { store = c.args.op.now.store; path = c.args.op.now.path; act = a }) q) c.in-Read.is)
