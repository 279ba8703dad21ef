use Rattle.std.proofs.Common.{◌≡◌, ◌<◌, ◌≤◌, ℕ, List, map, length, Ok, sym, subst, arith}
use Rattle.sal_follow.specs.Exporting.{AreBetween}
use Rattle.sal_follow.specs.Framed.{Trees, trees_of, Exports}
use Rattle.sal_follow.proofs.Exporting.{begun, one_more, fails, err_so, all_put}
use Rattle.sal_follow.proofs.Rising.{length-mapped}
use Rattle.sal_follow.proofs.exports.export.Goals as goal

pub loop-number-init : goal.loop-number-init
loop-number-init c =
    let trees : List Trees = map trees_of c.args.commits.now in
    subst (λ (b : List ℕ). AreBetween c.args.schema.now trees 0 0 b 0 0) (sym c.new-bytes.ensures.items) (begun c.args.schema.now trees 0 0)

pub loop-number-preserved : goal.loop-number-preserved
loop-number-preserved c =
    let l = c.loop-number in
    let trees : List Trees = map trees_of c.args.commits.now in
    let size : length trees ≡ length c.args.commits.now = length-mapped trees_of c.args.commits.now in
    let inside : l.number < length trees = omega (arith, size, c.loop-number-test.true) in
    one_more c.args.schema.now trees 0 0 l.bytes.items l.number l.number l.invariant c.push_commit.new.bytes.items inside c.in_ok-push_commit.ensures

pub returns-in_err-push_commit : goal.returns-in_err-push_commit
returns-in_err-push_commit c =
    let l = c.loop-number in
    let e = c.in_err-push_commit.field-0.0 in
    let trees : List Trees = map trees_of c.args.commits.now in
    let size : length trees ≡ length c.args.commits.now = length-mapped trees_of c.args.commits.now in
    let inside : l.number < length trees = omega (arith, size, c.loop-number-test.true) in
    err_so (Exports c.args.schema.now trees) _ e c.from_residual.ensures.1 (fails c.args.schema.now trees 0 0 l.bytes.items l.number l.number l.invariant e c.push_commit.new.bytes.items inside c.in_err-push_commit.ensures)

pub returns : goal.returns
returns c =
    let l = c.loop-number in
    let trees : List Trees = map trees_of c.args.commits.now in
    let size : length trees ≡ length c.args.commits.now = length-mapped trees_of c.args.commits.now in
    let all : length trees ≤ l.number = omega (arith, size, c.loop-number-test.false) in
    subst (λ (b : List ℕ). Exports c.args.schema.now trees (Ok b)) (sym c.from_items.ensures) (all_put c.args.schema.now trees 0 0 l.bytes.items l.number l.number l.invariant all)
