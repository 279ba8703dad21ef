-- The transaction is the log's next one of the chain.
use Rattle.std.proofs.Common.{◌≡◌, ◌-◌, ◌≤◌, ◌∙◌, length, Some, ap, sym, subst, get_or, set, refl, arith}
use Rattle.std.specs.Prelude.{slice_get, map}
use Rattle.std.specs.Vec.{with_items}
use Rattle.std.proofs.lemmas.List.{length-set, with_items_is}
use Rattle.std.proofs.lemmas.Option.{same_Some}
use Rattle.sal_history.specs.declared.call.Call.TheVariants.{ChainBegin}
use Rattle.sal_history.specs.declared.reply.Reply.TheVariants.{Begun}
use Rattle.sal_hub.specs.declared.chains.Chains.{Chains}
use Rattle.sal_hub.specs.Journals.{jotted}
use Rattle.sal_hub.specs.PipelineView.{shown}
use Rattle.sal_hub.specs.Starts.{Starts}
use Rattle.sal_hub.specs.Tokens.{begun_of}
use Rattle.sal_hub.proofs.Beginning.{made_now}
use Rattle.sal_hub.proofs.ChainCalls.{domain_at, domain_kept, id_within, next_chains, next_fresh, next_kept, next_reply, next_token, sent_within}
use Rattle.sal_hub.proofs.chain_calls.begin_next.Goals as goal

pub footing_in-requires-clause-kept : goal.footing_in-requires-clause-kept
footing_in-requires-clause-kept c =
    let p = c.args.pipeline.now in
    let d = c.index-domain.result.now in
    domain_kept c.args.journal.now p c.requires.kept c.args.chains.now c.requires.chains c.args.ask.chain c.requires.token c.requires.allowed d (c.index-domain.ensures ∙ ap (λ n. get_or p.domains.items n d) c.domain.ensures)

pub footing_in-requires-clause-given : goal.footing_in-requires-clause-given
footing_in-requires-clause-given c =
    let cs = c.args.chains.now in
    let sent = c.index-sent.result.now in
    sent_within c.args.journal.now c.args.pipeline.now c.requires.kept cs c.requires.chains c.args.ask.chain c.requires.token sent (c.index-sent.ensures ∙ ap (λ n. get_or cs.sent.items (n - 1) sent) c.id-2.ensures)

pub footing_in-requires-clause-behind : goal.footing_in-requires-clause-behind
footing_in-requires-clause-behind c = c.requires.kept.current.sound.behind

pub footing_in-requires-clause-seen : goal.footing_in-requires-clause-seen
footing_in-requires-clause-seen c = λ i s at. (c.requires.kept.current.sound.standing i s at).seen

pub note-requires : goal.note-requires
note-requires c = λ id same.
    let is : id ≡ c.args.ask.chain.id = sym (same_Some c.id.result id same) ∙ c.id.ensures in
    let high : c.args.ask.chain.id ≤ length c.args.chains.now.domains.items = id_within c.args.journal.now c.args.pipeline.now c.requires.kept c.args.chains.now c.requires.chains c.args.ask.chain c.requires.token in
    (omega (arith, is, c.requires.token.0), omega (arith, is, high, c.requires.chains.even.begun, ap length c.deref_mut.ensures.value))

pub returns : goal.returns
returns c =
    let journal = c.args.journal.now in
    let p = c.args.pipeline.now in
    let cs = c.args.chains.now in
    let chain = c.args.ask.chain in
    let d = c.index-domain.result.now in
    let sent = c.index-sent.result.now in
    let at : slice_get (map shown p.domains.items) chain.domain ≡ Some (shown d) =
    domain_at journal p c.requires.kept cs c.requires.chains chain c.requires.token c.requires.allowed d (c.index-domain.ensures ∙ ap (λ n. get_or p.domains.items n d) c.domain.ensures) in
    let sent_at : sent ≡ get_or cs.sent.items (chain.id - 1) sent = c.index-sent.ensures ∙ ap (λ n. get_or cs.sent.items (n - 1) sent) c.id-2.ensures in
    let starts : Starts d c.in_ok-footing.footing (Some chain.id) c.args.ask.mode (length journal.log) c.in_ok-tx.tx =
    subst (λ n. Starts d c.in_ok-footing.footing (Some n) c.args.ask.mode (length journal.log) c.in_ok-tx.tx) c.id.ensures c.in_ok-tx.ensures.starts in
    let log : c.enter.new.journal.log ≡ jotted journal.log c.args.ask.client (ChainBegin chain.id c.args.ask.mode) = c.in_ok-tx.ensures.log ∙ ap (λ n. jotted journal.log c.args.ask.client (ChainBegin n c.args.ask.mode)) c.id.ensures in
    let noted : c.note.new.notes ≡ set cs.begun.items (chain.id - 1) (Some (length journal.log)) =
    c.note.ensures ∙ (λ i. set (c.deref_mut.ensures.value i) (c.id.ensures i - 1) (Some (length (c.entries.ensures i)))) in
    let long : length c.note.new.notes ≡ cs.begun.len = ap length c.note.ensures ∙ length-set c.deref_mut.result.now (c.id.result - 1) (Some (length c.entries.result.now)) ∙ c.deref_mut.ensures.len in
    let cs' : Chains = record { domains = cs.domains; closed = cs.closed; begun = with_items cs.begun c.note.new.notes; sent = cs.sent } in record {
      kept = next_kept journal p c.requires.kept cs c.requires.chains chain c.requires.token c.requires.allowed d at sent sent_at c.in_ok-footing.footing c.in_ok-footing.ensures c.args.ask.mode c.in_ok-tx.tx starts c.args.ask.client c.enter.new.journal log c.in_ok-tx.ensures.marks;
      chains = next_chains journal p c.requires.kept cs c.requires.chains chain c.requires.token c.requires.allowed d at sent sent_at c.in_ok-footing.footing c.in_ok-footing.ensures c.args.ask.mode c.in_ok-tx.tx starts c.args.ask.client c.enter.new.journal log cs' refl refl (with_items_is cs.begun c.note.new.notes long ∙ noted) refl;
      answer = made_now journal c.enter.new.journal p c.requires.kept c.args.ask.client (ChainBegin chain.id c.args.ask.mode) log (Begun (begun_of c.in_ok-tx.tx).base_commit (begun_of c.in_ok-tx.tx).on) c.requires.room
          (next_reply journal p c.requires.kept cs c.requires.chains chain c.requires.token c.requires.allowed d at sent sent_at c.in_ok-footing.footing c.in_ok-footing.ensures c.args.ask.mode c.in_ok-tx.tx starts c.args.ask.client);
      token = next_token journal p c.requires.kept cs c.requires.chains chain c.requires.token c.requires.allowed d at sent sent_at c.in_ok-footing.footing c.in_ok-footing.ensures c.args.ask.mode c.in_ok-tx.tx starts c.args.ask.client c.enter.new.journal log;
      fresh = next_fresh journal p c.requires.kept cs c.requires.chains chain c.requires.token c.requires.allowed d at sent sent_at c.in_ok-footing.footing c.in_ok-footing.ensures c.args.ask.mode c.in_ok-tx.tx starts c.args.ask.client c.enter.new.journal log;
      err = tt;
    }
