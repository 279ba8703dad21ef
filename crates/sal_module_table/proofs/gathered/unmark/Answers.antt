use Rattle.std.proofs.Common.{◌+◌, List, Bool, drop, sym, subst}
use Rattle.sal_module_table.proofs.Marking.{AreLeft, all-left, one-less, none-left}
use Rattle.sal_module_table.proofs.gathered.unmark.Goals as goal

pub loop-k-init : goal.loop-k-init
loop-k-init c = all-left c.args.marks.now c.args.numbers.now c.requires

pub loop-k-preserved : goal.loop-k-preserved
loop-k-preserved c =
    let numbers = c.args.numbers.now in
    subst (λ (marks : List Bool). AreLeft marks (drop (c.loop-k.k-index + 1) numbers)) (sym c.set_mark.ensures)
    (one-less c.loop-k.marks numbers c.loop-k.k-index c.loop-k-test.true c.loop-k.invariant)

pub returns : goal.returns
returns c = none-left c.loop-k.marks c.args.numbers.now c.loop-k.k-index c.loop-k-test.false c.loop-k.invariant
