-- The entry is the log's next, and the transaction is one that the log gives.
use Rattle.std.proofs.Common.{◌≡◌, ap, ◌∙◌}
use Rattle.sal_rows.specs.declared.outcome.CallFault.TheVariants.{NoDomain}
use Rattle.sal_history.specs.declared.call.Call.TheVariants.{Begin}
use Rattle.sal_history.specs.declared.reply.Reply.TheVariants.{Begun, Refused}
use Rattle.sal_hub.specs.Journals.{jotted}
use Rattle.sal_hub.specs.PipelineView.{shown}
use Rattle.sal_hub.specs.Tokens.{begun_of}
use Rattle.sal_hub.proofs.Beginning.{begin_kept, begin_refused, begin_reply, begin_token, made_now}
use Rattle.sal_hub.proofs.start.begin.Goals as goal

pub returns-in-Ok-clause-kept : goal.returns-in-Ok-clause-kept
returns-in-Ok-clause-kept c = begin_kept c.args.journal.now c.add.new.self c.args.pipeline.now c.requires.kept c.args.client c.args.domain c.args.mode c.in-Ok.ensures.log c.in-Ok.ensures.marks

pub returns-in-Ok-clause-answer : goal.returns-in-Ok-clause-answer
returns-in-Ok-clause-answer c =
    made_now c.args.journal.now c.add.new.self c.args.pipeline.now c.requires.kept c.args.client (Begin c.args.domain c.args.mode) c.in-Ok.ensures.log (Refused (NoDomain c.args.domain)) c.requires.room
    (begin_refused c.args.journal.now c.add.new.self c.args.pipeline.now c.requires.kept c.args.client c.args.domain c.args.mode c.in-Ok.ensures.log c.in-None.ensures.live)

pub returns-in-Ok-begin_in-clause-kept : goal.returns-in-Ok-begin_in-clause-kept
returns-in-Ok-begin_in-clause-kept c =
    let number = (c.requires.kept.current.sound.domains c.args.domain (shown c.in-Some.found.now) c.in-Some.ensures.found).number in
    let log : c.begin_in.new.journal.log ≡ jotted c.args.journal.now.log c.args.client (Begin c.args.domain c.args.mode) = c.in-Ok-begin_in.ensures.log ∙ ap (λ n. jotted c.args.journal.now.log c.args.client (Begin n c.args.mode)) number in
    begin_kept c.args.journal.now c.begin_in.new.journal c.args.pipeline.now c.requires.kept c.args.client c.args.domain c.args.mode log c.in-Ok-begin_in.ensures.marks

pub returns-in-Ok-begin_in-clause-token : goal.returns-in-Ok-begin_in-clause-token
returns-in-Ok-begin_in-clause-token c =
    let number = (c.requires.kept.current.sound.domains c.args.domain (shown c.in-Some.found.now) c.in-Some.ensures.found).number in
    let log : c.begin_in.new.journal.log ≡ jotted c.args.journal.now.log c.args.client (Begin c.args.domain c.args.mode) = c.in-Ok-begin_in.ensures.log ∙ ap (λ n. jotted c.args.journal.now.log c.args.client (Begin n c.args.mode)) number in
    let (footing, newest, starts) = c.in-Ok-begin_in.ensures.starts in
    begin_token c.args.journal.now c.begin_in.new.journal c.args.pipeline.now c.requires.kept c.args.client c.args.domain c.args.mode log
    c.in-Some.found.now c.in-Some.ensures.live c.in-Some.ensures.found c.in-Ok-begin_in.tx footing newest starts

pub returns-in-Ok-begin_in-clause-answer : goal.returns-in-Ok-begin_in-clause-answer
returns-in-Ok-begin_in-clause-answer c =
    let number = (c.requires.kept.current.sound.domains c.args.domain (shown c.in-Some.found.now) c.in-Some.ensures.found).number in
    let log : c.begin_in.new.journal.log ≡ jotted c.args.journal.now.log c.args.client (Begin c.args.domain c.args.mode) = c.in-Ok-begin_in.ensures.log ∙ ap (λ n. jotted c.args.journal.now.log c.args.client (Begin n c.args.mode)) number in
    let (footing, newest, starts) = c.in-Ok-begin_in.ensures.starts in
    let tx = c.in-Ok-begin_in.tx in
    made_now c.args.journal.now c.begin_in.new.journal c.args.pipeline.now c.requires.kept c.args.client (Begin c.args.domain c.args.mode) log (Begun (begun_of tx).base_commit (begun_of tx).on) c.requires.room
    (begin_reply c.args.journal.now c.begin_in.new.journal c.args.pipeline.now c.requires.kept c.args.client c.args.domain c.args.mode log
    c.in-Some.found.now c.in-Some.ensures.live c.in-Some.ensures.found tx footing newest starts)
