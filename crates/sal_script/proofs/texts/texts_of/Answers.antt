use Rattle.std.proofs.Common.{ap, sym, ◌∙◌}
use Rattle.serde_json.specs.Find.{as_str}
use Rattle.sal_script.specs.Script.{or_bad}
use Rattle.sal_script.proofs.Each.{each_fails, each_done}
use Rattle.sal_script.proofs.Readers.{item_at, all_of-each, fault_at}
use Rattle.sal_script.proofs.texts.texts_of.Goals as goal

pub returns-in-None : goal.returns-in-None
returns-in-None c =
    let place = c.args.name.now in
    let l = c.loop-value in
    let fails = ap (or_bad place) (sym c.in-None.ensures.text) in
    fault_at place _ _ c.bad.ensures
    (all_of-each as_str place 0 c.args.list.now
    ∙ each_fails (item_at as_str place) l.texts.items l.value-index c.args.list.now _ c.value-item.result place c.loop-value-test.true c.value-item.is fails l.invariant)

pub returns : goal.returns
returns c =
    let l = c.loop-value in
    all_of-each as_str c.args.name.now 0 c.args.list.now
    ∙ each_done (item_at as_str c.args.name.now) l.texts.items l.value-index c.args.list.now _ c.loop-value-test.false l.invariant
