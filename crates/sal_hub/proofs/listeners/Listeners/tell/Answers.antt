-- The batch is that of the listener, whose version moves to its end.
use Rattle.std.proofs.Common.{◌≡◌, ◌-◌, ◌<◌, Some, get_or, length, refl, ap, ◌∙◌, arith, set}
use Rattle.std.specs.Prelude.{slice_get}
use Rattle.std.proofs.lemmas.Grind.{common_steps}
use Rattle.sal_hub.specs.declared.listener.Listener.{Listener}
use Rattle.sal_hub.specs.Listeners.{batch_in}
use Rattle.sal_hub.proofs.Listed.{slice_get_at}
use Rattle.sal_hub.proofs.Serving.{kept_at}
use Rattle.sal_hub.proofs.Taking.{domain_within, same_at, told_within}
use Rattle.sal_hub.proofs.listeners.Listeners.tell.Goals as goal

pub index-domain-requires : goal.index-domain-requires
index-domain-requires c =
    let ls = c.args.self.now in
    let l = c.index-listener.result.now in
    let at : slice_get ls.list.items (c.args.number - 1) ≡ Some l = slice_get_at ls.list.items (c.args.number - 1) l (omega (arith, c.requires.low, c.requires.high)) c.index-listener.ensures in
    let within : l.domain < length c.args.pipeline.now.domains.items = domain_within c.args.journal.now c.args.pipeline.now c.requires.kept ls c.requires.listeners c.args.number l c.requires.low at in
    grind (arith, common_steps, within)

pub batch_for-requires-clause-kept : goal.batch_for-requires-clause-kept
batch_for-requires-clause-kept c =
    let ls = c.args.self.now in
    let p = c.args.pipeline.now in
    let l = c.index-listener.result.now in
    let at : slice_get ls.list.items (c.args.number - 1) ≡ Some l = slice_get_at ls.list.items (c.args.number - 1) l (omega (arith, c.requires.low, c.requires.high)) c.index-listener.ensures in
    kept_at p.domains.items l.domain c.index-domain.result.now c.requires.kept.kept (domain_within c.args.journal.now p c.requires.kept ls c.requires.listeners c.args.number l c.requires.low at) c.index-domain.ensures

pub batch_for-requires-clause-told : goal.batch_for-requires-clause-told
batch_for-requires-clause-told c =
    let ls = c.args.self.now in
    let l = c.index-listener.result.now in
    let at : slice_get ls.list.items (c.args.number - 1) ≡ Some l = slice_get_at ls.list.items (c.args.number - 1) l (omega (arith, c.requires.low, c.requires.high)) c.index-listener.ensures in
    told_within c.args.journal.now c.args.pipeline.now c.requires.kept ls c.requires.listeners c.args.number l c.requires.low at c.index-domain.result.now c.index-domain.ensures

pub returns-clause-batch : goal.returns-clause-batch
returns-clause-batch c = λ d l at of_domain.
    let x = c.index-listener.result.now in
    let y = c.index-domain.result.now in
    let this : x ≡ l = same_at c.args.self.now.list.items (c.args.number - 1) x l c.index-listener.ensures at in
    let there : y ≡ d = same_at c.args.pipeline.now.domains.items l.domain y d (c.index-domain.ensures ∙ ap (λ (z : Listener). get_or c.args.pipeline.now.domains.items z.domain y) this) of_domain in
    c.in_ok-batch.ensures ∙ (λ i. batch_in (there i) (this i))

pub returns-clause-told : goal.returns-clause-told
returns-clause-told c =
    let list = c.args.self.now.list.items in
    let x = c.index_mut.result.now in
    record {
      list = λ l at. let this : x ≡ l = same_at list (c.args.number - 1) x l c.index_mut.ensures.value at in ap (λ (z : Listener). set list (c.args.number - 1) (record z { version = c.in_ok-batch.batch.to })) this;
      live = refl;
    }
