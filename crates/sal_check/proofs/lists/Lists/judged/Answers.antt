use Rattle.std.proofs.Common.{rules, ◌≡◌, ◌<◌, length, sym, subst, arith}
use Rattle.std.specs.List.{All}
use Rattle.sal_check.specs.Nodes.{slot, is_judged_in, judged}
use Rattle.sal_check.proofs.Plans.{kept-inside, judged-none}
use Rattle.sal_check.proofs.lists.Lists.judged.Goals as goal

pub returns-then-slot-len-clause-within : goal.returns-then-slot-len-clause-within
returns-then-slot-len-clause-within c =
    let table = c.args.schema.now in
    let is : c.deref.result.now ≡ judged table c.args.at = search rules in
    subst (All (λ n. n < length table.nodes)) (sym is) (kept-inside (is_judged_in table (slot c.args.at)) (length table.nodes) (length table.nodes) (omega arith))

pub returns-else-slot-len-clause-numbers : goal.returns-else-slot-len-clause-numbers
returns-else-slot-len-clause-numbers c =
    judged-none c.args.schema.now (slot c.args.at) (omega (arith, c.if-slot-len.false, c.slot-slot.ensures, c.len.ensures, c.requires.count))
