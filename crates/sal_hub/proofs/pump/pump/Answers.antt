-- The entry is the log's next.
use Rattle.std.proofs.Common.{◌≡◌, ◌+◌, ◌-◌, ◌<◌, ◌≤◌, ◌∙◌, List, ap, length, subst, arith, slice_get, Some}
use Rattle.std.specs.Option.{option_map}
use Rattle.std.proofs.lemmas.Grind.{common_steps}
use Rattle.sal_tx.specs.declared.tx.Submission.{Submission}
use Rattle.sal_history.specs.declared.call.Call.TheVariants.{Pump}
use Rattle.sal_history.specs.declared.reply.Reply.TheVariants.{Nothing}
use Rattle.sal_history.specs.History.{sents}
use Rattle.sal_history.specs.Submissions.{Sent}
use Rattle.sal_hub.specs.Current.{answers}
use Rattle.sal_hub.specs.PipelineView.{AreDecided, queue_of}
use Rattle.sal_hub.proofs.Beginning.{made_now}
use Rattle.sal_hub.proofs.Settling.{few, idle_kept, idle_reply, pumped_given, pumped_kept, pumped_made}
use Rattle.sal_hub.proofs.pump.pump.Goals as goal

pub returns-in-Ok-clause-kept : goal.returns-in-Ok-clause-kept
returns-in-Ok-clause-kept c =
    let none : length c.args.pipeline.now.waiting.items ≤ 0 = grind (arith, common_steps) in
    idle_kept c.args.journal.now c.add.new.self c.args.pipeline.now c.requires.kept c.args.client c.in-Ok.ensures.log none c.in-Ok.ensures.marks

pub returns-in-Ok-clause-answer : goal.returns-in-Ok-clause-answer
returns-in-Ok-clause-answer c =
    let none : length c.args.pipeline.now.waiting.items ≤ 0 = grind (arith, common_steps) in
    made_now c.args.journal.now c.add.new.self c.args.pipeline.now c.requires.kept c.args.client Pump c.in-Ok.ensures.log Nothing c.requires.room
    (idle_reply c.args.journal.now c.add.new.self c.args.pipeline.now c.requires.kept c.args.client c.in-Ok.ensures.log none)

pub settle-requires-clause-sound : goal.settle-requires-clause-sound
settle-requires-clause-sound c = (sents (answers c.args.journal.now.log (queue_of c.args.pipeline.now)), c.requires.kept.current.sound)

pub settle-requires-clause-given : goal.settle-requires-clause-given
settle-requires-clause-given c =
    let within : 0 < length c.args.pipeline.now.waiting.items = grind (arith, common_steps) in
    let count : c.len-decided.result ≡ length c.args.pipeline.now.outcomes.items = grind (arith, common_steps) in
    omega (arith, within, count, c.requires.kept.let_go)

pub settle-requires-clause-few : goal.settle-requires-clause-few
settle-requires-clause-few c =
    let within : c.args.pipeline.now.gone + length c.args.pipeline.now.waiting.items ≤ length c.args.journal.now.log = few c.args.journal.now c.args.pipeline.now c.requires.kept in
    omega (arith, within, c.requires.room)

pub returns-in-Ok-settle-clause-kept : goal.returns-in-Ok-settle-clause-kept
returns-in-Ok-settle-clause-kept c =
    let p = c.args.pipeline.now in
    let all : List Sent = sents (answers c.args.journal.now.log (queue_of p)) in
    let done = c.in-Ok-settle.ensures in
    let count : c.len-decided.result ≡ length p.outcomes.items = grind (arith, common_steps) in
    let decided : AreDecided all (queue_of p) (length p.outcomes.items + 1 - length p.outcomes.items) (queue_of c.settle.new.self) =
    subst (λ n. AreDecided all (queue_of p) (n + 1 - length p.outcomes.items) (queue_of c.settle.new.self)) count (done.decided all c.requires.kept.current.sound) in
    pumped_kept c.args.journal.now c.settle.new.journal p c.requires.kept c.args.client done.log c.settle.new.self decided done.kept done.gone done.marks

pub returns-in-Ok-settle-clause-answer : goal.returns-in-Ok-settle-clause-answer
returns-in-Ok-settle-clause-answer c =
    let p = c.args.pipeline.now in
    let all : List Sent = sents (answers c.args.journal.now.log (queue_of p)) in
    let done = c.in-Ok-settle.ensures in
    let o = c.in-Ok-settle.outcome in
    let r = c.first_receipt-receipt.result in
    let count : c.len-decided.result ≡ length p.outcomes.items = grind (arith, common_steps) in
    let decided : AreDecided all (queue_of p) (length p.outcomes.items + 1 - length p.outcomes.items) (queue_of c.settle.new.self) =
    subst (λ n. AreDecided all (queue_of p) (n + 1 - length p.outcomes.items) (queue_of c.settle.new.self)) count (done.decided all c.requires.kept.current.sound) in
    let within : 0 < length p.waiting.items = grind (arith, common_steps) in
    let place : c.len-decided.result + 1 - 1 ≡ length p.outcomes.items = omega (arith, count) in
    let at : slice_get c.settle.new.self.outcomes.items (length p.outcomes.items) ≡ Some o = subst (λ n. slice_get c.settle.new.self.outcomes.items n ≡ Some o) place done.outcome in
    let number : r.number ≡ length p.outcomes.items + 1 = c.first_receipt-receipt.ensures.number ∙ ap (λ n. n + 1) count in
    let domain : option_map (λ (s : Submission). s.domain) (slice_get p.waiting.items 0) ≡ Some r.domain = c.first_receipt-receipt.ensures.domain in
    pumped_made c.args.journal.now c.settle.new.journal p c.requires.kept c.args.client done.log c.settle.new.self decided r number domain o c.requires.room within at

pub returns-in-Ok-settle-clause-given : goal.returns-in-Ok-settle-clause-given
returns-in-Ok-settle-clause-given c =
    let p = c.args.pipeline.now in
    let all : List Sent = sents (answers c.args.journal.now.log (queue_of p)) in
    let done = c.in-Ok-settle.ensures in
    let r = c.first_receipt-receipt.result in
    let count : c.len-decided.result ≡ length p.outcomes.items = grind (arith, common_steps) in
    let decided : AreDecided all (queue_of p) (length p.outcomes.items + 1 - length p.outcomes.items) (queue_of c.settle.new.self) =
    subst (λ n. AreDecided all (queue_of p) (n + 1 - length p.outcomes.items) (queue_of c.settle.new.self)) count (done.decided all c.requires.kept.current.sound) in
    let within : 0 < length p.waiting.items = grind (arith, common_steps) in
    let number : r.number ≡ length p.outcomes.items + 1 = c.first_receipt-receipt.ensures.number ∙ ap (λ n. n + 1) count in
    let domain : option_map (λ (s : Submission). s.domain) (slice_get p.waiting.items 0) ≡ Some r.domain = c.first_receipt-receipt.ensures.domain in
    pumped_given c.args.journal.now c.settle.new.journal p c.requires.kept c.args.client done.log c.settle.new.self decided r number domain within
