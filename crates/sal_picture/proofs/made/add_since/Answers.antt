-- One commit more, up to the last.
use Rattle.std.proofs.Common.{◌-◌, ap, sym, ◌∙◌, Option}
use Rattle.std.specs.Option.{option_or}
use Rattle.sal_draw.specs.Acts.{made_in}
use Rattle.sal_shapes.specs.declared.scene.Made.{Made}
use Rattle.sal_picture.specs.Made.{here}
use Rattle.sal_picture.proofs.Tables.{commit_more, commits_all, or_none}
use Rattle.sal_picture.proofs.made.add_since.Goals as goal

pub loop-number-init : goal.loop-number-init
loop-number-init c = λ i. sym (or_none (made_in c.args.table.now.items i))

pub loop-number-preserved : goal.loop-number-preserved
loop-number-preserved c = λ i.
    let n = c.loop-number.number in
    let x = c.index-commits-number.result in
    c.in_ok-add_commit.ensures i
    ∙ ap (λ r. option_or (made_in c.loop-number.table.items i) (here c.args.domain n r i)) c.since-receipt.ensures
    ∙ ap (λ (o : Option Made). option_or o (here c.args.domain n (x.receipt - c.args.first) i)) (c.loop-number.invariant i)
    ∙ commit_more c.args.first c.args.domain c.args.commits.now n x i (made_in c.args.table.now.items i) c.loop-number-test.true c.index-commits-number.is

pub returns : goal.returns
returns c = λ i. c.loop-number.invariant i ∙ commits_all c.args.first c.args.domain c.args.commits.now c.loop-number.number i (made_in c.args.table.now.items i) c.loop-number-test.false
