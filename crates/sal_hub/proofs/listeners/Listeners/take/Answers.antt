-- The entry is the log's next, and the batch is the log's.
use Rattle.std.proofs.Common.{◌≡◌, ◌-◌, ◌≤◌, length, true, false, refl, ap, sym, ◌∙◌, subst, arith}
use Rattle.sal_rows.specs.declared.outcome.CallFault.TheVariants.{NoListener}
use Rattle.sal_history.specs.declared.call.Call.TheVariants.{Take}
use Rattle.sal_history.specs.declared.reply.Reply.TheVariants.{Refused}
use Rattle.sal_hub.specs.Answers.{Made}
use Rattle.sal_hub.specs.Current.{known_of}
use Rattle.sal_hub.specs.Journals.{jotted}
use Rattle.sal_hub.specs.HubHistory.{entry_of}
use Rattle.sal_hub.specs.Listeners.{AreListeners, IsBatchFor, Tells, has_in}
use Rattle.sal_hub.proofs.Beginning.{quiet_kept}
use Rattle.sal_hub.proofs.Heard.{number_within, same_listeners}
use Rattle.sal_hub.proofs.Taking.{told_answer, told_now, untold_answer, untold_listeners}
use Rattle.sal_hub.proofs.listeners.Listeners.take.Goals as goal

pub has-requires-clause-high : goal.has-requires-clause-high
has-requires-clause-high c =
    let high : c.args.id.number ≤ length c.args.self.now.list.items = number_within (known_of c.args.journal.now c.args.pipeline.now) c.args.self.now c.requires.listeners c.args.id c.requires.token in
    omega (arith, high, c.number-number.ensures)

pub tell-requires-clause-high : goal.tell-requires-clause-high
tell-requires-clause-high c =
    let high : c.args.id.number ≤ length c.args.self.now.list.items = number_within (known_of c.args.journal.now c.args.pipeline.now) c.args.self.now c.requires.listeners c.args.id c.requires.token in
    omega (arith, high, c.number-number.ensures)

pub returns-in-Ok : goal.returns-in-Ok
returns-in-Ok c =
    let j = c.args.journal.now in
    let p = c.args.pipeline.now in
    let ls = c.args.self.now in
    let log : c.add.new.self.log ≡ jotted j.log c.args.client (Take c.args.id.number) = c.in-Ok.ensures.log ∙ ap (λ n. jotted j.log c.args.client (Take n)) c.number-number.ensures in
    let gone : has_in ls.list.items c.args.client (c.args.id.number - 1) ≡ false = ap (λ n. has_in ls.list.items c.args.client (n - 1)) (sym c.number-number.ensures) ∙ sym c.has.ensures ∙ c.if-not-has.true in
    record {
      kept = quiet_kept j c.add.new.self p c.requires.kept c.args.client (Take c.number-number.result) c.in-Ok.ensures.log refl refl refl refl (λ k. refl) refl c.in-Ok.ensures.marks;
      listeners = untold_listeners j c.add.new.self p c.requires.kept ls ls c.requires.listeners c.args.client c.args.id c.requires.token log gone;
      answer = subst (λ n. Made (known_of j p) (known_of c.add.new.self p) (entry_of (known_of j p) c.args.client (Take c.args.id.number)) (Refused (NoListener n))) (sym c.number-number.ensures)
          (untold_answer j c.add.new.self p c.requires.kept ls ls c.requires.listeners c.args.client c.args.id c.requires.token log gone c.requires.room);
    }

pub returns-in-Ok-tell : goal.returns-in-Ok-tell
returns-in-Ok-tell c =
    let j = c.args.journal.now in
    let p = c.args.pipeline.now in
    let ls = c.args.self.now in
    let done = c.in-Ok-tell.ensures in
    let b = c.in-Ok-tell.batch in
    let log : c.tell.new.journal.log ≡ jotted j.log c.args.client (Take c.args.id.number) = done.log ∙ ap (λ n. jotted j.log c.args.client (Take n)) c.number-number.ensures in
    let own : has_in ls.list.items c.args.client (c.args.id.number - 1) ≡ true = ap (λ n. has_in ls.list.items c.args.client (n - 1)) (sym c.number-number.ensures) ∙ sym c.has.ensures ∙ c.if-not-has.false in
    let given = subst (λ n. IsBatchFor p.domains.items ls.list.items (n - 1) b) c.number-number.ensures done.batch in
    record {
      kept = quiet_kept j c.tell.new.journal p c.requires.kept c.args.client (Take c.number-number.result) done.log refl refl refl refl (λ k. refl) refl done.marks;
      listeners = told_now j c.tell.new.journal p c.requires.kept ls c.tell.new.self c.requires.listeners c.args.client c.args.id c.requires.token log own b given (subst (λ n. Tells ls (n - 1) b.to c.tell.new.self) c.number-number.ensures done.told);
      answer = told_answer j c.tell.new.journal p c.requires.kept ls c.tell.new.self c.requires.listeners c.args.client c.args.id c.requires.token log own b given c.requires.room;
    }

pub returns-in-Err-tell-clause-listeners : goal.returns-in-Err-tell-clause-listeners
returns-in-Err-tell-clause-listeners c =
    let p = c.args.pipeline.now in
    let same = c.in-Err-tell.ensures in
    same_listeners (known_of c.tell.new.journal p) c.args.self.now c.tell.new.self same.same (subst (λ j. AreListeners (known_of j p) c.args.self.now) (sym same.journal) c.requires.listeners)
