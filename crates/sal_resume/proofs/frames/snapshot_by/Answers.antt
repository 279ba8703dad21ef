-- The newest trees.
use Rattle.std.proofs.Common.{◌≡◌, subst}
use Rattle.sal_types.specs.declared.value.Store.TheVariants.{Config, Oper}
use Rattle.sal_follow.specs.Framed.{Trees, IsSnapshot, trees_of_pair}
use Rattle.sal_resume.specs.Newest.{newest}
use Rattle.sal_resume.proofs.frames.snapshot_by.Goals as goal

pub returns : goal.returns
returns c =
    let n = c.args.domain in
    let trees : trees_of_pair c.trees_of.result.now ≡ newest c.args.hub.now n = λ i. record { config = c.trees_of.ensures Config i; oper = c.trees_of.ensures Oper i } in
    subst (λ (ts : Trees). IsSnapshot c.args.schema.now c.args.number ts c.snapshot_of.result) trees c.snapshot_of.ensures
