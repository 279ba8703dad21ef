-- The schemas and the readers are those of the next world.
use Rattle.std.proofs.Common.{length, ap, sym, ◌∙◌, subst, arith}
use Rattle.std.proofs.lemmas.List.{length-map}
use Rattle.std.specs.declared.alloc.Global.{Global}
use Rattle.std.specs.declared.sync.Arc.{Arc}
use Rattle.sal_schema.specs.declared.table.SchemaTable.{SchemaTable}
use Rattle.sal_history.specs.World.{Domain, version_in}
use Rattle.sal_hub.specs.Epochs.{OpensAtTheNewest}
use Rattle.sal_hub.specs.HubHistory.{HubHistory}
use Rattle.sal_script.specs.Tables.{tables_of, versions_of}
use Rattle.sal_client.specs.Lists.{begun_with}
use Rattle.sal_cluster.proofs.epoch.begun_anew.Goals as goal

pub next_hub-next-requires : goal.next_hub-next-requires
next_hub-next-requires c =
    let schemas = c.args.ended.schemas.items in
    let long = sym (length-map schemas (λ (s : Arc SchemaTable Global). s.value)) ∙ ap length c.requires.schemas ∙ length-map c.args.ended.hub.world (λ (d : Domain). version_in d (length d.upgrades)) in
    omega (arith, long, c.requires.few)

pub over-requires-clause-schemas : goal.over-requires-clause-schemas
over-requires-clause-schemas c =
    c.requires.schemas ∙ sym (c.epochs_read_on.ensures c.args.past.rules c.args.ended.hub c.stays_lawful.ensures.only).1 ∙ ap (λ (h : HubHistory). tables_of h.world) (sym c.next_hub-next.ensures.next)

pub over-requires-clause-readers : goal.over-requires-clause-readers
over-requires-clause-readers c =
    c.begin_with.ensures
    ∙ (λ i. begun_with (c.requires.past i) (c.requires.readers i))
    ∙ sym (c.epochs_read_on.ensures c.args.past.rules c.args.ended.hub c.stays_lawful.ensures.only).0 ∙ ap (λ (h : HubHistory). versions_of h.world) (sym c.next_hub-next.ensures.next)

pub returns-clause-newest : goal.returns-clause-newest
returns-clause-newest c = subst (λ (h : HubHistory). OpensAtTheNewest c.args.ended.hub h.world) (sym c.over.ensures.hub) c.next_hub-next.ensures.leader
