use Rattle.std.proofs.Common.{List, sym, subst}
use Rattle.sal_rows.specs.declared.op.Op.{Op}
use Rattle.sal_tree.specs.declared.commit.Pair.{Pair}
use Rattle.sal_tx.specs.declared.writing.Writing.{Writing}
use Rattle.sal_tx.specs.Views.{IsSeen, stamp_of, with_tree}
use Rattle.sal_tx.proofs.Nexts.{one_more}
use Rattle.sal_tx.proofs.writing.push.Goals as goal

pub returns-in-Ok-add-clause-outcome : goal.returns-in-Ok-add-clause-outcome
returns-in-Ok-add-clause-outcome c =
    let w = c.args.parts.now in
    let v : Writing = record { begun = w.begun; mode = w.mode; base = w.base; changes = c.add.new.self } in
    one_more w v c.args.op c.requires.right c.requires.for_schema c.in-Ok.ensures.allowed (λ i. record { begun = w.begun; mode = w.mode; base = w.base; changes = c.in-Ok-add.ensures.ok i })

pub returns-in-Ok-add-clause-seen : goal.returns-in-Ok-add-clause-seen
returns-in-Ok-add-clause-seen c =
    let w = c.args.parts.now in
    let stamp = stamp_of w.begun.place in
    let after : IsSeen stamp c.add.new.self w.base (with_tree c.args.view.now c.args.op.store c.in-Ok.tree) =
    subst (λ (ops : List Op). IsSeen stamp ops w.base (with_tree c.args.view.now c.args.op.store c.in-Ok.tree)) (sym c.in-Ok-add.ensures.ok) c.in-Ok.ensures.seen in
    subst (λ (view : Pair). IsSeen stamp c.add.new.self w.base view) (sym c.set_tree.ensures) after
