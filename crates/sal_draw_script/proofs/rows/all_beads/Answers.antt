-- One client more, up to the last.
use Rattle.std.proofs.Common.{◌≡◌, ◌<◌, ◌≤◌, ℕ, List, length, min, ap, sym, ◌∙◌, arith}
use Rattle.std.specs.Prelude.{map}
use Rattle.sal_script.specs.declared.reply.StepReply.{StepReply}
use Rattle.sal_script.specs.declared.script.ScriptStep.{ScriptStep}
use Rattle.sal_script.specs.Moves.{moves_of}
use Rattle.sal_draw_script.specs.Rows.{beads, beads_of}
use Rattle.sal_draw_script.proofs.Beads.{all_more, clients_all}
use Rattle.sal_draw_script.proofs.rows.all_beads.Goals as goal

pub loop-i-preserved : goal.loop-i-preserved
loop-i-preserved c =
    let clients = c.args.clients.now in
    let replies = c.args.replies.now in
    let i = c.loop-i.i in
    let x = c.index-clients-i.result in
    let y = c.index-replies-i.result in
    let hx : i < length clients = omega (arith, c.loop-i-test.true, c.min-i-end.ensures) in
    let hy : i < length replies = omega (arith, c.loop-i-test.true, c.min-i-end.ensures) in
    let same : beads_of c.in_ok-beads_of.field-0 ≡ beads (moves_of x) y =
    c.in_ok-beads_of.ensures
    ∙ ap (λ (s : List ScriptStep). beads (moves_of s) c.items-in-loop-i.result.now) c.items.ensures
    ∙ ap (λ (r : List StepReply). beads (moves_of x) r) c.items-in-loop-i.ensures in
    all_more clients replies i x y c.loop-i.all.items c.append.new.list.items c.in_ok-beads_of.field-0 c.in_ok-append.ensures same hx hy c.index-clients-i.is c.index-replies-i.is
    ∙ c.loop-i.invariant

pub returns : goal.returns
returns c =
    let end : min (length c.args.clients.now) (length c.args.replies.now) ≤ c.loop-i.i = omega (arith, c.loop-i-test.false, c.min-i-end.ensures) in
    sym (clients_all c.args.clients.now c.args.replies.now c.loop-i.i (map beads_of c.loop-i.all.items) end) ∙ c.loop-i.invariant
