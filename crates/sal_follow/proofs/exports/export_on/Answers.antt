use Rattle.std.proofs.Common.{◌≡◌, ◌+◌, ◌<◌, ◌≤◌, ℕ, List, map, length, Ok, sym, subst, arith}
use Rattle.sal_follow.specs.Exporting.{AreBetween}
use Rattle.sal_follow.specs.Framed.{Trees, trees_of, ExportsOn}
use Rattle.sal_follow.proofs.Exporting.{begun, one_more, fails, err_so, all_put}
use Rattle.sal_follow.proofs.Rising.{length-mapped}
use Rattle.sal_follow.proofs.exports.export_on.Goals as goal

pub loop-commit-init : goal.loop-commit-init
loop-commit-init c =
    let trees : List Trees = map trees_of c.args.commits.now in
    subst (λ (b : List ℕ). AreBetween c.args.schema.now trees c.args.next.commit c.args.next.number b c.args.next.commit c.args.next.number) (sym c.new-bytes.ensures.items) (begun c.args.schema.now trees c.args.next.commit c.args.next.number)

pub loop-commit-preserved : goal.loop-commit-preserved
loop-commit-preserved c =
    let l = c.loop-commit in
    let trees : List Trees = map trees_of c.args.commits.now in
    let size : length trees ≡ length c.args.commits.now = length-mapped trees_of c.args.commits.now in
    let inside : l.commit < length trees = omega (arith, size, c.loop-commit-test.true) in
    subst (λ number. AreBetween c.args.schema.now trees c.args.next.commit c.args.next.number c.push_kept.new.bytes.items (l.commit + 1) number) (sym c.in_ok-number.ensures)
    (one_more c.args.schema.now trees c.args.next.commit c.args.next.number l.bytes.items l.commit l.number l.invariant c.push_kept.new.bytes.items inside c.in_ok-push_kept.ensures)

pub returns-in_err-push_kept : goal.returns-in_err-push_kept
returns-in_err-push_kept c =
    let l = c.loop-commit in
    let e = c.in_err-push_kept.field-0.0 in
    let trees : List Trees = map trees_of c.args.commits.now in
    let size : length trees ≡ length c.args.commits.now = length-mapped trees_of c.args.commits.now in
    let inside : l.commit < length trees = omega (arith, size, c.loop-commit-test.true) in
    err_so (ExportsOn c.args.schema.now trees c.args.next.commit c.args.next.number) _ e c.from_residual.ensures.1 (fails c.args.schema.now trees c.args.next.commit c.args.next.number l.bytes.items l.commit l.number l.invariant e c.push_kept.new.bytes.items inside c.in_err-push_kept.ensures)

pub returns : goal.returns
returns c =
    let l = c.loop-commit in
    let trees : List Trees = map trees_of c.args.commits.now in
    let size : length trees ≡ length c.args.commits.now = length-mapped trees_of c.args.commits.now in
    let all : length trees ≤ l.commit = omega (arith, size, c.loop-commit-test.false) in
    subst (λ (b : List ℕ). ExportsOn c.args.schema.now trees c.args.next.commit c.args.next.number (Ok b)) (sym c.from_items.ensures) (all_put c.args.schema.now trees c.args.next.commit c.args.next.number l.bytes.items l.commit l.number l.invariant all)
