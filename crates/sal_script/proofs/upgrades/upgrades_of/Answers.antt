use Rattle.std.proofs.Common.{codes, sym, ◌∙◌}
use Rattle.sal_script.specs.Script.{texts_in}
use Rattle.sal_script.proofs.Each.{each_done}
use Rattle.sal_script.proofs.Readers.{item_at, all_of-each, each_fault, reads_err}
use Rattle.sal_script.proofs.upgrades.upgrades_of.Goals as goal

pub returns-in_err-texts : goal.returns-in_err-texts
returns-in_err-texts c =
    let place = codes "upgrades" in
    let l = c.loop-value in
    let e = c.in_err-texts.field-0.0 in
    let total = all_of-each texts_in place 0 c.args.list.now in
    reads_err _ _ e _ c.from_residual-in_err-texts.ensures.1
    (each_fault (item_at texts_in place) l.upgrades.items l.value-index c.args.list.now _ c.value-item.result e c.loop-value-test.true c.value-item.is c.in_err-texts.ensures (l.invariant ∙ sym total))

pub returns : goal.returns
returns c =
    let l = c.loop-value in
    all_of-each texts_in (codes "upgrades") 0 c.args.list.now
    ∙ each_done (item_at texts_in (codes "upgrades")) l.upgrades.items l.value-index c.args.list.now _ c.loop-value-test.false l.invariant
