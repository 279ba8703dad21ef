-- One client more, up to the last.
use Rattle.std.proofs.Common.{◌≡◌, ◌+◌, ◌<◌, ◌≤◌, ◌++◌, ℕ, List, false, length, drop, ap, sym, ◌∙◌, arith}
use Rattle.std.specs.Prelude.{map}
use Rattle.std.proofs.lemmas.List.{length-map}
use Rattle.sal_shapes.specs.declared.scene.Row.{Row}
use Rattle.sal_draw_script.specs.Rows.{beads_in, local_row, rest_rows, tables_in}
use Rattle.sal_draw_script.proofs.Beads.{mapped_read}
use Rattle.sal_draw_script.proofs.Weaving.{rest_all, rest_more}
use Rattle.sal_draw_script.proofs.rows.add_rest.Goals as goal

pub loop-lane-preserved : goal.loop-lane-preserved
loop-lane-preserved c =
    let tables = tables_in c.args.schemas.now in
    let left = map beads_in c.args.left.now in
    let lane = c.loop-lane.lane in
    let x = c.index-left-lane.result in
    let rows = c.loop-lane.rows.items in
    let rest = rest_rows tables (lane + 1) (drop (lane + 1) left) in
    let within : lane < length left = omega (arith, c.loop-lane-test.true, length-map c.args.left.now beads_in) in
    ap (λ (r : List Row). r ++ rest) (c.in_ok-add_locals.ensures ∙ ap (λ (n : ℕ). rows ++ map (local_row tables n false) (beads_in x)) c.in_ok-number.ensures)
    ∙ rest_more tables left lane (beads_in x) rows within (mapped_read beads_in c.args.left.now lane x c.loop-lane-test.true c.index-left-lane.is)
    ∙ c.loop-lane.invariant

pub returns : goal.returns
returns c =
    let left = map beads_in c.args.left.now in
    let end : length left ≤ c.loop-lane.lane = omega (arith, c.loop-lane-test.false, length-map c.args.left.now beads_in) in
    sym (rest_all (tables_in c.args.schemas.now) left c.loop-lane.lane c.loop-lane.rows.items end) ∙ c.loop-lane.invariant
