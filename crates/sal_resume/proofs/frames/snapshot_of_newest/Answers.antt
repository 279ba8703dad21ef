-- The newest trees, by the present version.
use Rattle.std.proofs.Common.{◌≡◌, ◌<◌, length, ◌∙◌, subst, arith}
use Rattle.sal_types.specs.declared.value.Store.TheVariants.{Config, Oper}
use Rattle.sal_schema.specs.declared.table.SchemaTable.{SchemaTable}
use Rattle.sal_follow.specs.Framed.{Trees, IsSnapshot, trees_of_pair}
use Rattle.sal_resume.specs.Newest.{newest}
use Rattle.sal_resume.proofs.frames.snapshot_of_newest.Goals as goal

pub returns : goal.returns
returns c =
    let known = c.args.hub.now in
    let d = c.index-domains-domain in
    let inside : c.args.domain < length c.domains.result.now = omega (arith, c.requires, c.domains.ensures.all) in
    let schema = c.deref.ensures ∙ (c.domains.ensures.each c.args.domain d.result inside d.is).schema in
    let trees : trees_of_pair c.trees_of-trees.result.now ≡ newest known c.args.domain = λ i. record { config = c.trees_of-trees.ensures Config i; oper = c.trees_of-trees.ensures Oper i } in
    subst (λ (t : SchemaTable). IsSnapshot t c.args.number (newest known c.args.domain) c.snapshot_of.result) schema
    (subst (λ (ts : Trees). IsSnapshot c.deref.result.now c.args.number ts c.snapshot_of.result) trees c.snapshot_of.ensures)
