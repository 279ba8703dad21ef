-- The entry is the log's next.
use Rattle.std.proofs.Common.{◌≡◌, true, false, refl, ap, sym, ◌∙◌, subst, arith}
use Rattle.std.proofs.lemmas.Grind.{common_steps}
use Rattle.sal_rows.specs.declared.outcome.CallFault.TheVariants.{NoDomain}
use Rattle.sal_history.specs.declared.call.Call.TheVariants.{OpenChain}
use Rattle.sal_history.specs.declared.reply.Reply.TheVariants.{Chain as Opened, Refused}
use Rattle.sal_hub.specs.declared.chain.Chain.{Chain}
use Rattle.sal_hub.specs.declared.pipeline.Pipeline.{Pipeline}
use Rattle.sal_hub.specs.Answers.{Made}
use Rattle.sal_hub.specs.Current.{known_of}
use Rattle.sal_hub.specs.HubHistory.{entry_of}
use Rattle.sal_hub.specs.PipelineView.{is_live_in, queue_of}
use Rattle.sal_hub.proofs.Beginning.{made_now}
use Rattle.sal_hub.proofs.ChainCalls.{opened_chains, opened_given, opened_kept, opened_made, unopened_chains, unopened_kept, unopened_reply}
use Rattle.sal_hub.proofs.chain_calls.open_chain.Goals as goal

pub returns-in-Ok-clause-kept : goal.returns-in-Ok-clause-kept
returns-in-Ok-clause-kept c =
    let dead : is_live_in (queue_of c.args.pipeline.now).domains c.args.domain ≡ false = grind (arith, common_steps) in
    unopened_kept c.args.journal.now c.add.new.self c.args.pipeline.now c.requires.kept c.args.client c.args.domain c.in-Ok.ensures.log dead c.in-Ok.ensures.marks

pub returns-in-Ok-clause-chains : goal.returns-in-Ok-clause-chains
returns-in-Ok-clause-chains c =
    let dead : is_live_in (queue_of c.args.pipeline.now).domains c.args.domain ≡ false = grind (arith, common_steps) in
    unopened_chains c.args.journal.now c.add.new.self c.args.pipeline.now c.requires.kept c.args.client c.args.domain c.in-Ok.ensures.log dead c.args.chains.now c.requires.chains

pub returns-in-Ok-clause-answer : goal.returns-in-Ok-clause-answer
returns-in-Ok-clause-answer c =
    let dead : is_live_in (queue_of c.args.pipeline.now).domains c.args.domain ≡ false = grind (arith, common_steps) in
    made_now c.args.journal.now c.add.new.self c.args.pipeline.now c.requires.kept c.args.client (OpenChain c.args.domain) c.in-Ok.ensures.log (Refused (NoDomain c.args.domain)) c.requires.room
    (unopened_reply c.args.journal.now c.add.new.self c.args.pipeline.now c.requires.kept c.args.client c.args.domain c.in-Ok.ensures.log dead)

pub returns-in-Ok-add_chain-clause-kept : goal.returns-in-Ok-add_chain-clause-kept
returns-in-Ok-add_chain-clause-kept c =
    let live : is_live_in (queue_of c.args.pipeline.now).domains c.args.domain ≡ true = grind (arith, common_steps) in
    let p = c.args.pipeline.now in
    let done = c.in-Ok-add_chain.ensures in
    let p' : Pipeline = record { domains = p.domains; gone = p.gone; waiting = p.waiting; outcomes = p.outcomes; failures = c.add_chain.new.failures } in
    opened_kept c.args.journal.now c.add_chain.new.journal p c.requires.kept c.args.client c.args.domain done.log p' live refl refl refl refl done.failures done.marks

pub returns-in-Ok-add_chain-clause-chains : goal.returns-in-Ok-add_chain-clause-chains
returns-in-Ok-add_chain-clause-chains c =
    let live : is_live_in (queue_of c.args.pipeline.now).domains c.args.domain ≡ true = grind (arith, common_steps) in
    let p = c.args.pipeline.now in
    let done = c.in-Ok-add_chain.ensures in
    let p' : Pipeline = record { domains = p.domains; gone = p.gone; waiting = p.waiting; outcomes = p.outcomes; failures = c.add_chain.new.failures } in
    opened_chains c.args.journal.now c.add_chain.new.journal p c.requires.kept c.args.client c.args.domain done.log p' live refl refl refl refl done.failures c.args.chains.now c.add_chain.new.chains c.requires.chains done.chains

pub returns-in-Ok-add_chain-clause-answer : goal.returns-in-Ok-add_chain-clause-answer
returns-in-Ok-add_chain-clause-answer c =
    let live : is_live_in (queue_of c.args.pipeline.now).domains c.args.domain ≡ true = grind (arith, common_steps) in
    let p = c.args.pipeline.now in
    let done = c.in-Ok-add_chain.ensures in
    let p' : Pipeline = record { domains = p.domains; gone = p.gone; waiting = p.waiting; outcomes = p.outcomes; failures = c.add_chain.new.failures } in
    subst (λ n. Made (known_of c.args.journal.now p) (known_of c.add_chain.new.journal p') (entry_of (known_of c.args.journal.now p) c.args.client (OpenChain c.args.domain)) (Opened n))
    (sym (ap (λ (x : Chain). x.id) c.of.ensures ∙ done.id))
    (opened_made c.args.journal.now c.add_chain.new.journal p c.requires.kept c.args.client c.args.domain done.log p' live refl refl refl refl done.failures c.args.chains.now c.add_chain.new.chains c.requires.chains done.chains c.requires.room)

pub returns-in-Ok-add_chain-clause-given : goal.returns-in-Ok-add_chain-clause-given
returns-in-Ok-add_chain-clause-given c =
    let live : is_live_in (queue_of c.args.pipeline.now).domains c.args.domain ≡ true = grind (arith, common_steps) in
    let p = c.args.pipeline.now in
    let done = c.in-Ok-add_chain.ensures in
    let p' : Pipeline = record { domains = p.domains; gone = p.gone; waiting = p.waiting; outcomes = p.outcomes; failures = c.add_chain.new.failures } in
    opened_given c.args.journal.now c.add_chain.new.journal p c.requires.kept c.args.client c.args.domain done.log p' live refl refl refl refl done.failures c.args.chains.now c.add_chain.new.chains c.requires.chains done.chains
    c.of.result (ap (λ (x : Chain). x.id) c.of.ensures ∙ done.id) (ap (λ (x : Chain). x.domain) c.of.ensures)
