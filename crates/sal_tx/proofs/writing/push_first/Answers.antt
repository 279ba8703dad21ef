use Rattle.sal_tx.specs.declared.writing.Writing.{Writing}
use Rattle.sal_tx.proofs.Nexts.{one_more}
use Rattle.sal_tx.proofs.writing.push_first.Goals as goal

pub returns-clause-outcome : goal.returns-clause-outcome
returns-clause-outcome c =
    let w = c.args.parts.now in
    let v : Writing = record { begun = w.begun; mode = w.mode; base = w.base; changes = c.add.new.self } in
    one_more w v c.args.op c.requires.right c.requires.for_schema c.in-Ok.ensures (λ i. record { begun = w.begun; mode = w.mode; base = w.base; changes = c.in-Ok-add.ensures.ok i })
