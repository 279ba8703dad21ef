use Rattle.std.proofs.Common.{◌^◌, codes, ap, sym, ◌∙◌}
use Rattle.sal_script.specs.Json.{whole_below}
use Rattle.sal_script.specs.Script.{or_bad}
use Rattle.sal_script.proofs.Each.{each_fails, each_done}
use Rattle.sal_script.proofs.Readers.{number_at, all_of-each, fault_at}
use Rattle.sal_script.proofs.read.numbers_of.Goals as goal

pub returns-in-None : goal.returns-in-None
returns-in-None c =
    let place = codes "order" in
    let l = c.loop-value in
    let fails = ap (or_bad place) (sym c.in-None.ensures) in
    fault_at place _ _ c.bad.ensures
    (all_of-each (whole_below (2 ^ 32)) place 0 c.args.list.now
    ∙ each_fails (number_at place) l.numbers.items l.value-index c.args.list.now _ c.value-item.result place c.loop-value-test.true c.value-item.is fails l.invariant)

pub returns : goal.returns
returns c =
    let l = c.loop-value in
    all_of-each (whole_below (2 ^ 32)) (codes "order") 0 c.args.list.now ∙ each_done (number_at (codes "order")) l.numbers.items l.value-index c.args.list.now _ c.loop-value-test.false l.invariant
