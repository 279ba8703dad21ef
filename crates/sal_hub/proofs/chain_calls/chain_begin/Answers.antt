-- A refusal has its entry.
use Rattle.std.proofs.Common.{◌≡◌, Some, ap, sym, ◌∙◌}
use Rattle.sal_history.specs.declared.call.Call.TheVariants.{ChainBegin}
use Rattle.sal_history.specs.History.{chain_refusal}
use Rattle.sal_hub.specs.Current.{answers}
use Rattle.sal_hub.specs.Journals.{jotted}
use Rattle.sal_hub.specs.PipelineView.{queue_of, world_in}
use Rattle.sal_hub.proofs.ChainCalls.{refused_chains, refused_fails, refused_kept}
use Rattle.sal_hub.proofs.chain_calls.chain_begin.Goals as goal

pub returns-in-Ok-clause-kept : goal.returns-in-Ok-clause-kept
returns-in-Ok-clause-kept c =
    let chain = c.args.ask.chain in
    let log : c.add.new.self.log ≡ jotted c.args.journal.now.log c.args.ask.client (ChainBegin chain.id c.args.ask.mode) = c.in-Ok.ensures.log ∙ ap (λ n. jotted c.args.journal.now.log c.args.ask.client (ChainBegin n c.args.ask.mode)) c.id-chain.ensures in
    let refused : chain_refusal (world_in (queue_of c.args.pipeline.now).domains) (answers c.args.journal.now.log (queue_of c.args.pipeline.now)) chain.id ≡ Some c.in-Some.fault = sym c.refusal.ensures ∙ c.in-Some.is in
    refused_kept c.args.journal.now c.add.new.self c.args.pipeline.now c.requires.kept c.args.ask.client chain.id c.args.ask.mode log c.in-Some.fault refused c.in-Ok.ensures.marks

pub returns-in-Ok-clause-chains : goal.returns-in-Ok-clause-chains
returns-in-Ok-clause-chains c =
    let chain = c.args.ask.chain in
    let log : c.add.new.self.log ≡ jotted c.args.journal.now.log c.args.ask.client (ChainBegin chain.id c.args.ask.mode) = c.in-Ok.ensures.log ∙ ap (λ n. jotted c.args.journal.now.log c.args.ask.client (ChainBegin n c.args.ask.mode)) c.id-chain.ensures in
    let refused : chain_refusal (world_in (queue_of c.args.pipeline.now).domains) (answers c.args.journal.now.log (queue_of c.args.pipeline.now)) chain.id ≡ Some c.in-Some.fault = sym c.refusal.ensures ∙ c.in-Some.is in
    refused_chains c.args.journal.now c.add.new.self c.args.pipeline.now c.requires.kept c.args.ask.client chain.id c.args.ask.mode log c.in-Some.fault refused c.args.chains.now c.requires.chains

pub returns-in-Ok-clause-answer : goal.returns-in-Ok-clause-answer
returns-in-Ok-clause-answer c =
    let chain = c.args.ask.chain in
    let log : c.add.new.self.log ≡ jotted c.args.journal.now.log c.args.ask.client (ChainBegin chain.id c.args.ask.mode) = c.in-Ok.ensures.log ∙ ap (λ n. jotted c.args.journal.now.log c.args.ask.client (ChainBegin n c.args.ask.mode)) c.id-chain.ensures in
    let refused : chain_refusal (world_in (queue_of c.args.pipeline.now).domains) (answers c.args.journal.now.log (queue_of c.args.pipeline.now)) chain.id ≡ Some c.in-Some.fault = sym c.refusal.ensures ∙ c.in-Some.is in
    refused_fails c.args.journal.now c.add.new.self c.args.pipeline.now c.requires.kept c.args.ask.client chain.id c.args.ask.mode log c.in-Some.fault refused c.requires.room
