use Rattle.std.proofs.Common.{List, ◌+◌, ◌++◌, ap, ◌∙◌}
use Rattle.sal_rows.specs.declared.batch.Part.{Part}
use Rattle.sal_rows.specs.Batches.{part}
use Rattle.sal_listen.specs.Given.{trees_of}
use Rattle.sal_listen.proofs.Given.{parts-next}
use Rattle.sal_listen.proofs.batches.parts.Goals as goal

pub loop-past-preserved : goal.loop-past-preserved
loop-past-preserved c =
    let own = c.args.listened.now.own in
    let trees = trees_of c.args.commits.now c.args.listened.now.store in
    let p = c.args.listened.now.path.now in
    let k = c.args.from + c.loop-past.past in
    c.in_ok-add_next.ensures
    ∙ ap (λ (ps : List Part). ps ++ part own (trees k) (trees (k + 1)) p (k + 1)) c.loop-past.invariant
    ∙ parts-next own trees p c.args.from c.loop-past.past
