use Rattle.std.proofs.Common.{◌≡◌, ◌∙◌, ◌+◌, sym, arith}
use Rattle.sal_module.specs.Imports.{plain}
use Rattle.sal_module.proofs.Rounds.{first_round, next_round, marks, marks-same, stable-until}
use Rattle.sal_module.proofs.reach.reaching.Goals as goal

pub loop-i-init : goal.loop-i-init
loop-i-init c = c.in_ok-marks.ensures ∙ first_round c.args.edges.now (plain c.args.edges.now) c.args.target

pub loop-i-preserved : goal.loop-i-preserved
loop-i-preserved c =
    let h = simp (c.as_slice.ensures.value, c.loop-i.invariant) at c.in_ok-next.ensures in
    h ∙ next_round c.args.edges.now (plain c.args.edges.now) c.loop-i._i c.args.target

pub returns-then-eq : goal.returns-then-eq
returns-then-eq c =
    let edges = c.args.edges.now in
    let target = c.args.target in
    let i = c.loop-i._i in
    let next = simp (c.as_slice.ensures.value, c.loop-i.invariant) at c.in_ok-next.ensures in
    let equal = rw (c.as_slice-in-loop-i.ensures.value, c.as_slice-in-loop-i-2.ensures.value) at (sym c.if-eq.ensures) in
    let same : marks (plain edges) i target ≡ marks (plain edges) (i + 1) target =
    sym c.loop-i.invariant ∙ sym (marks-same c.in_ok-next.next.items c.loop-i.marks.items equal) ∙ next ∙ next_round edges (plain edges) i target in
    c.loop-i.invariant ∙ stable-until edges i target c.args.rounds same (omega arith)
