-- The entry is the log's next, and the listener is removed.
use Rattle.std.proofs.Common.{◌≡◌, ◌-◌, ◌≤◌, length, true, false, refl, ap, sym, ◌∙◌, subst, arith}
use Rattle.sal_rows.specs.declared.outcome.CallFault.TheVariants.{NoListener}
use Rattle.sal_history.specs.declared.call.Call.TheVariants.{Unlisten}
use Rattle.sal_history.specs.declared.reply.Reply.TheVariants.{Refused}
use Rattle.sal_hub.specs.Answers.{Made}
use Rattle.sal_hub.specs.Current.{known_of}
use Rattle.sal_hub.specs.Journals.{jotted}
use Rattle.sal_hub.specs.HubHistory.{entry_of}
use Rattle.sal_hub.specs.Listeners.{Removes, has_in}
use Rattle.sal_hub.proofs.Beginning.{quiet_kept}
use Rattle.sal_hub.proofs.Heard.{number_within}
use Rattle.sal_hub.proofs.Taking.{gone_answer, gone_now, live_now, ungone_answer, ungone_listeners}
use Rattle.sal_hub.proofs.listeners.Listeners.unlisten.Goals as goal

pub has-requires-clause-high : goal.has-requires-clause-high
has-requires-clause-high c =
    let high : c.args.id.number ≤ length c.args.self.now.list.items = number_within (known_of c.args.journal.now c.args.pipeline.now) c.args.self.now c.requires.listeners c.args.id c.requires.token in
    omega (arith, high, c.number-number.ensures)

pub returns-then-not-has-clause-kept : goal.returns-then-not-has-clause-kept
returns-then-not-has-clause-kept c =
    quiet_kept c.args.journal.now c.add.new.self c.args.pipeline.now c.requires.kept c.args.client (Unlisten c.number-number.result) c.in-Ok.ensures.log refl refl refl refl (λ k. refl) refl c.in-Ok.ensures.marks

pub returns-then-not-has-clause-listeners : goal.returns-then-not-has-clause-listeners
returns-then-not-has-clause-listeners c =
    let j = c.args.journal.now in
    let ls = c.args.self.now in
    let log : c.add.new.self.log ≡ jotted j.log c.args.client (Unlisten c.args.id.number) = c.in-Ok.ensures.log ∙ ap (λ n. jotted j.log c.args.client (Unlisten n)) c.number-number.ensures in
    let gone : has_in ls.list.items c.args.client (c.args.id.number - 1) ≡ false = ap (λ n. has_in ls.list.items c.args.client (n - 1)) (sym c.number-number.ensures) ∙ sym c.has.ensures ∙ c.if-not-has.true in
    ungone_listeners j c.add.new.self c.args.pipeline.now c.requires.kept ls ls c.requires.listeners c.args.client c.args.id c.requires.token log gone

pub returns-then-not-has-clause-answer : goal.returns-then-not-has-clause-answer
returns-then-not-has-clause-answer c =
    let j = c.args.journal.now in
    let p = c.args.pipeline.now in
    let ls = c.args.self.now in
    let log : c.add.new.self.log ≡ jotted j.log c.args.client (Unlisten c.args.id.number) = c.in-Ok.ensures.log ∙ ap (λ n. jotted j.log c.args.client (Unlisten n)) c.number-number.ensures in
    let gone : has_in ls.list.items c.args.client (c.args.id.number - 1) ≡ false = ap (λ n. has_in ls.list.items c.args.client (n - 1)) (sym c.number-number.ensures) ∙ sym c.has.ensures ∙ c.if-not-has.true in
    subst (λ n. Made (known_of j p) (known_of c.add.new.self p) (entry_of (known_of j p) c.args.client (Unlisten c.args.id.number)) (Refused (NoListener n))) (sym c.number-number.ensures)
    (ungone_answer j c.add.new.self p c.requires.kept ls ls c.requires.listeners c.args.client c.args.id c.requires.token log gone c.requires.room)

pub take_out-requires-clause-within : goal.take_out-requires-clause-within
take_out-requires-clause-within c =
    let high : c.args.id.number ≤ length c.args.self.now.list.items = number_within (known_of c.args.journal.now c.args.pipeline.now) c.args.self.now c.requires.listeners c.args.id c.requires.token in
    omega (arith, high, c.number-number.ensures, c.requires.token.0)

pub take_out-requires-clause-some : goal.take_out-requires-clause-some
take_out-requires-clause-some c =
    let ls = c.args.self.now in
    let own : has_in ls.list.items c.args.client (c.args.id.number - 1) ≡ true = ap (λ n. has_in ls.list.items c.args.client (n - 1)) (sym c.number-number.ensures) ∙ sym c.has.ensures ∙ c.if-not-has.false in
    live_now c.args.journal.now c.add.new.self c.args.pipeline.now c.requires.kept ls ls c.requires.listeners c.args.client c.args.id c.requires.token own

pub returns-clause-kept : goal.returns-clause-kept
returns-clause-kept c =
    quiet_kept c.args.journal.now c.add.new.self c.args.pipeline.now c.requires.kept c.args.client (Unlisten c.number-number.result) c.in-Ok.ensures.log refl refl refl refl (λ k. refl) refl c.in-Ok.ensures.marks

pub returns-clause-listeners : goal.returns-clause-listeners
returns-clause-listeners c =
    let j = c.args.journal.now in
    let ls = c.args.self.now in
    let log : c.add.new.self.log ≡ jotted j.log c.args.client (Unlisten c.args.id.number) = c.in-Ok.ensures.log ∙ ap (λ n. jotted j.log c.args.client (Unlisten n)) c.number-number.ensures in
    let own : has_in ls.list.items c.args.client (c.args.id.number - 1) ≡ true = ap (λ n. has_in ls.list.items c.args.client (n - 1)) (sym c.number-number.ensures) ∙ sym c.has.ensures ∙ c.if-not-has.false in
    gone_now j c.add.new.self c.args.pipeline.now c.requires.kept ls c.take_out.new.self c.requires.listeners c.args.client c.args.id c.requires.token log own
    (subst (λ n. Removes ls (n - 1) c.take_out.new.self) c.number-number.ensures c.take_out.ensures)

pub returns-clause-answer : goal.returns-clause-answer
returns-clause-answer c =
    let j = c.args.journal.now in
    let ls = c.args.self.now in
    let log : c.add.new.self.log ≡ jotted j.log c.args.client (Unlisten c.args.id.number) = c.in-Ok.ensures.log ∙ ap (λ n. jotted j.log c.args.client (Unlisten n)) c.number-number.ensures in
    let own : has_in ls.list.items c.args.client (c.args.id.number - 1) ≡ true = ap (λ n. has_in ls.list.items c.args.client (n - 1)) (sym c.number-number.ensures) ∙ sym c.has.ensures ∙ c.if-not-has.false in
    gone_answer j c.add.new.self c.args.pipeline.now c.requires.kept ls ls c.requires.listeners c.args.client c.args.id c.requires.token log own c.requires.room
