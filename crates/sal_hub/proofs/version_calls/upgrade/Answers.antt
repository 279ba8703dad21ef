-- The entry is the log's next, and what is kept stays the log's.
use Rattle.std.proofs.Common.{◌≡◌, ◌<◌, None, length, arith, ap, sym, ◌∙◌, subst}
use Rattle.std.proofs.lemmas.Grind.{common_steps}
use Rattle.std.proofs.lemmas.Option.{same_Some}
use Rattle.sal_commit.specs.declared.domain.Domain.{Domain}
use Rattle.sal_commit.specs.Versions.{upgrade_fault, version_in}
use Rattle.sal_hub.specs.PipelineView.{queue_of}
use Rattle.sal_hub.specs.Upgrades.{set_version}
use Rattle.sal_hub.proofs.Listed.{slice_get_at}
use Rattle.sal_hub.proofs.Serving.{kept_at, some_domain}
use Rattle.sal_hub.proofs.Upgrading.{high_enough, ready_next, ready_refused, refusal_is, upgraded_kept, upgraded_made}
use Rattle.sal_hub.proofs.version_calls.upgrade.Goals as goal

pub index-requires : goal.index-requires
index-requires c =
    let some : 0 < length c.args.pipeline.now.domains.items = some_domain c.args.journal.now c.args.pipeline.now c.requires.kept in
    grind (arith, common_steps)

pub ready-requires-clause-kept : goal.ready-requires-clause-kept
ready-requires-clause-kept c = kept_at c.args.pipeline.now.domains.items 0 c.index.result.now c.requires.kept.kept (some_domain c.args.journal.now c.args.pipeline.now c.requires.kept) c.index.ensures

pub ready-requires-clause-high : goal.ready-requires-clause-high
ready-requires-clause-high c = high_enough c.args.pipeline.now.domains.items c.index.result.now c.args.version (some_domain c.args.journal.now c.args.pipeline.now c.requires.kept) c.index.ensures c.requires.high

pub refuse-requires-clause-refused : goal.refuse-requires-clause-refused
refuse-requires-clause-refused c =
    let p = c.args.pipeline.now in
    let first = c.index.result.now in
    let refused = ready_refused first c.args.version c.in-Ok-Err.field-0 c.in-Ok-Err.fault c.in-Ok-Err.field-0-is c.in-Ok-Err.ensures in
    sym (refusal_is c.args.journal.now p c.requires.kept first c.args.version (some_domain c.args.journal.now p c.requires.kept) c.index.ensures) ∙ refused

pub upgrade-requires-clause-kept : goal.upgrade-requires-clause-kept
upgrade-requires-clause-kept c = c.requires.kept.kept

pub upgrade-requires-clause-there : goal.upgrade-requires-clause-there
upgrade-requires-clause-there c = some_domain c.args.journal.now c.args.pipeline.now c.requires.kept

pub upgrade-requires-clause-next : goal.upgrade-requires-clause-next
upgrade-requires-clause-next c d at =
    let p = c.args.pipeline.now in
    let first = c.index.result.now in
    let next = c.in-Ok-Ok.next in
    let done = ready_next first c.args.version c.in-Ok-Ok.field-0 next c.in-Ok-Ok.field-0-is c.in-Ok-Ok.ensures in
    let same : first ≡ d = same_Some first d (sym (slice_get_at p.domains.items 0 first (some_domain c.args.journal.now p c.requires.kept) c.index.ensures) ∙ at) in
    subst (λ (x : Domain). (next.schema.value ≡ version_in x next.number) × (upgrade_fault x next.number ≡ None)) same
    (done.3 ∙ ap (version_in first) (sym done.2), ap (upgrade_fault first) done.2 ∙ done.1)

pub returns-clause-kept : goal.returns-clause-kept
returns-clause-kept c =
    let j = c.args.journal.now in
    let p = c.args.pipeline.now in
    let first = c.index.result.now in
    let done = ready_next first c.args.version c.in-Ok-Ok.field-0 c.in-Ok-Ok.next c.in-Ok-Ok.field-0-is c.in-Ok-Ok.ensures in
    let queue : queue_of c.upgrade.new.self ≡ set_version (queue_of p) c.args.version = c.upgrade.ensures.queue ∙ ap (set_version (queue_of p)) done.2 in
    upgraded_kept j c.add.new.self p c.requires.kept c.args.client c.args.version c.in-Ok.ensures.log c.upgrade.new.self queue
    (sym (refusal_is j p c.requires.kept first c.args.version (some_domain j p c.requires.kept) c.index.ensures) ∙ done.0) c.upgrade.ensures.kept c.in-Ok.ensures.marks

pub returns-clause-answer : goal.returns-clause-answer
returns-clause-answer c =
    let j = c.args.journal.now in
    let p = c.args.pipeline.now in
    let first = c.index.result.now in
    let done = ready_next first c.args.version c.in-Ok-Ok.field-0 c.in-Ok-Ok.next c.in-Ok-Ok.field-0-is c.in-Ok-Ok.ensures in
    let queue : queue_of c.upgrade.new.self ≡ set_version (queue_of p) c.args.version = c.upgrade.ensures.queue ∙ ap (set_version (queue_of p)) done.2 in
    upgraded_made j c.add.new.self p c.requires.kept c.args.client c.args.version c.in-Ok.ensures.log c.upgrade.new.self queue
    (sym (refusal_is j p c.requires.kept first c.args.version (some_domain j p c.requires.kept) c.index.ensures) ∙ done.0) c.requires.room
