-- One depth is looked at.
use Rattle.std.proofs.Common.{◌≡◌, ℕ, Bool, ◌-◌, ◌+◌, true, false, length, take, Some, ap, sym, ◌∙◌, cond, arith}
use Rattle.std.specs.Prelude.{find}
use Rattle.sal_rows.specs.Commits.{numbers_after}
use Rattle.sal_tree.specs.Rows.{rows_of}
use Rattle.sal_graft.specs.Rows.{is_lost_of}
use Rattle.sal_graft.proofs.Clashes.{find-depth, no-depth}
use Rattle.sal_graft.proofs.search.lost_depth.Goals as goal

pub returns-then-is_lost-clause-depth : goal.returns-then-is_lost-clause-depth
returns-then-is_lost-clause-depth c =
    let t : ℕ → Bool = λ d. is_lost_of (rows_of c.args.base.now) (rows_of c.args.tip.now) c.args.earlier.now c.args.store (take d c.args.steps.now) in
    let d = c.loop-depth.depth in
    let n = length c.args.steps.now in
    let rest = find t (numbers_after (d + 1 - 1) (n - (d + 1))) in
    let tested : true ≡ t d = sym c.if-is_lost.true ∙ c.is_lost.ensures in
    ap (λ b. cond b (Some d) rest) tested ∙ sym (find-depth t d n (omega arith) (omega arith)) ∙ c.loop-depth.invariant

pub loop-depth-preserved : goal.loop-depth-preserved
loop-depth-preserved c =
    let t : ℕ → Bool = λ d. is_lost_of (rows_of c.args.base.now) (rows_of c.args.tip.now) c.args.earlier.now c.args.store (take d c.args.steps.now) in
    let d = c.loop-depth.depth in
    let n = length c.args.steps.now in
    let rest = find t (numbers_after (d + 1 - 1) (n - (d + 1))) in
    let tested : false ≡ t d = sym c.if-is_lost.false ∙ c.is_lost.ensures in
    ap (λ b. cond b (Some d) rest) tested ∙ sym (find-depth t d n (omega arith) (omega arith)) ∙ c.loop-depth.invariant

pub returns-clause-depth : goal.returns-clause-depth
returns-clause-depth c =
    let t : ℕ → Bool = λ d. is_lost_of (rows_of c.args.base.now) (rows_of c.args.tip.now) c.args.earlier.now c.args.store (take d c.args.steps.now) in
    sym (no-depth t c.loop-depth.depth (length c.args.steps.now) (omega arith)) ∙ c.loop-depth.invariant
