-- The refusal is the log's.
use Rattle.std.proofs.Common.{◌≡◌, ◌-◌, ◌∙◌, ap, get_or, not, option_map}
use Rattle.std.specs.Option.{option_or}
use Rattle.sal_rows.specs.declared.outcome.CallFault.TheVariants.{ChainClosed, ChainFailed, NoDomain, PreviousOpen}
use Rattle.sal_history.specs.History.{fault_if, has_open}
use Rattle.sal_hub.specs.Current.{answers}
use Rattle.sal_hub.specs.PipelineView.{is_live_in, queue_of}
use Rattle.sal_hub.proofs.ChainCalls.{closed_is, failed_is, open_is, refused_by}
use Rattle.sal_hub.proofs.chain_calls.refusal.Goals as goal

pub returns : goal.returns
returns c =
    let journal = c.args.journal.now in
    let p = c.args.pipeline.now in
    let cs = c.args.chains.now in
    let chain = c.args.chain.now in
    let closed = c.index-closed.ensures ∙ ap (λ n. get_or cs.closed.items (n - 1) c.index-closed.result.now) c.id.ensures in
    let failed = c.index-failed.ensures ∙ ap (λ n. get_or p.failures.items (n - 1) c.index-failed.result.now) c.id.ensures in
    let begun = c.index.ensures ∙ ap (λ n. get_or cs.begun.items (n - 1) c.index.result.now) c.id.ensures in
    let waits : c.is_open-has_open.result ≡ has_open (answers journal.log (queue_of p)) chain.id = c.is_open-has_open.ensures ∙ open_is journal p c.requires.kept cs c.requires.chains chain c.requires.token c.index.result.now begun in
    let live : c.is_live-live.result ≡ is_live_in (queue_of p).domains chain.domain = c.is_live-live.ensures ∙ ap (is_live_in (queue_of p).domains) c.domain.ensures in
    let at_domain : option_or (fault_if c.index-closed.result.now ChainClosed) (option_or (option_map ChainFailed c.index-failed.result.now) (option_or (fault_if c.is_open-has_open.result PreviousOpen) (fault_if (not c.is_live-live.result) (NoDomain c.domain-2.result))))
    ≡ option_or (fault_if c.index-closed.result.now ChainClosed) (option_or (option_map ChainFailed c.index-failed.result.now) (option_or (fault_if c.is_open-has_open.result PreviousOpen) (fault_if (not c.is_live-live.result) (NoDomain chain.domain)))) =
    ap (λ n. option_or (fault_if c.index-closed.result.now ChainClosed) (option_or (option_map ChainFailed c.index-failed.result.now) (option_or (fault_if c.is_open-has_open.result PreviousOpen) (fault_if (not c.is_live-live.result) (NoDomain n))))) c.domain-2.ensures in
    c.refusal_by.ensures ∙ at_domain
    ∙ refused_by journal p c.requires.kept cs c.requires.chains chain c.requires.token c.index-closed.result.now c.index-failed.result.now c.is_open-has_open.result c.is_live-live.result
    (closed_is journal p c.requires.kept cs c.requires.chains chain c.requires.token c.index-closed.result.now closed)
    (failed_is journal p c.requires.kept cs c.requires.chains chain c.requires.token c.index-failed.result.now failed) waits live
