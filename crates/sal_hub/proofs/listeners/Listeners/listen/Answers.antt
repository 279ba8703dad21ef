-- The entry is the log's next.
use Rattle.std.proofs.Common.{◌≡◌, length, ap, sym, ◌∙◌, refl, subst, arith}
use Rattle.std.proofs.lemmas.Grind.{common_steps}
use Rattle.sal_hub.specs.declared.listener.ListenerId.{ListenerId}
use Rattle.sal_hub.specs.Listeners.{AreListeners, call_of}
use Rattle.sal_hub.specs.Current.{known_of}
use Rattle.sal_hub.proofs.Beginning.{quiet_kept}
use Rattle.sal_hub.proofs.Heard.{same_listeners}
use Rattle.sal_hub.proofs.Telling.{opened_answer, opened_listeners, opened_made, opened_token, unmade_listeners}
use Rattle.sal_hub.proofs.listeners.Listeners.listen.Goals as goal

pub returns-in-Ok-clause-kept : goal.returns-in-Ok-clause-kept
returns-in-Ok-clause-kept c =
    let ask = c.args.ask.now in
    quiet_kept c.args.journal.now c.enter.new.journal c.args.pipeline.now c.requires.kept ask.client (call_of ask) c.in-Ok.ensures.log refl refl refl refl (λ k. refl) refl c.in-Ok.ensures.marks

pub returns-in-Ok-clause-listeners : goal.returns-in-Ok-clause-listeners
returns-in-Ok-clause-listeners c =
    let ls = c.args.self.now in
    unmade_listeners c.args.journal.now c.enter.new.journal c.args.pipeline.now c.requires.kept ls ls c.requires.listeners c.args.ask.now c.in-Ok.ensures.log c.in-Some.fault (sym c.refusal.ensures ∙ c.in-Some.is)

pub returns-in-Ok-make-clause-kept : goal.returns-in-Ok-make-clause-kept
returns-in-Ok-make-clause-kept c =
    let ask = c.args.ask.now in
    quiet_kept c.args.journal.now c.make.new.journal c.args.pipeline.now c.requires.kept ask.client (call_of ask) c.in-Ok-make.ensures.log refl refl refl refl (λ k. refl) refl c.in-Ok-make.ensures.marks

pub returns-in-Ok-make-clause-listeners : goal.returns-in-Ok-make-clause-listeners
returns-in-Ok-make-clause-listeners c =
    let done = c.in-Ok-make.ensures in
    opened_listeners c.args.journal.now c.make.new.journal c.args.pipeline.now c.requires.kept c.args.self.now c.make.new.self c.requires.listeners c.args.ask.now done.log
    (sym c.refusal.ensures ∙ c.in-None.is) c.index.result.now c.index.ensures c.in-Ok-make.opened done.opened done.made

pub returns-in-Ok-make-clause-answer : goal.returns-in-Ok-make-clause-answer
returns-in-Ok-make-clause-answer c =
    let long : c.len-number.result ≡ length c.make.new.self.list.items = grind (arith, common_steps) in
    let done = c.in-Ok-make.ensures in
    opened_answer c.args.journal.now c.make.new.journal c.args.pipeline.now c.requires.kept c.args.self.now c.make.new.self c.requires.listeners c.args.ask.now done.log
    (sym c.refusal.ensures ∙ c.in-None.is) c.index.result.now c.index.ensures c.in-Ok-make.opened done.opened done.made
    c.of.result (ap (λ (id : ListenerId). id.number) c.of.ensures ∙ long) c.requires.room

pub returns-in-Ok-make-clause-given : goal.returns-in-Ok-make-clause-given
returns-in-Ok-make-clause-given c =
    let long : c.len-number.result ≡ length c.make.new.self.list.items = grind (arith, common_steps) in
    let done = c.in-Ok-make.ensures in
    opened_token c.args.journal.now c.make.new.journal c.args.pipeline.now c.requires.kept c.args.self.now c.make.new.self c.requires.listeners c.args.ask.now done.log
    (sym c.refusal.ensures ∙ c.in-None.is) c.index.result.now c.index.ensures c.in-Ok-make.opened done.opened done.made
    c.of.result (ap (λ (id : ListenerId). id.number) c.of.ensures ∙ long) (ap (λ (id : ListenerId). id.domain) c.of.ensures)

pub returns-in-Ok-make-clause-made : goal.returns-in-Ok-make-clause-made
returns-in-Ok-make-clause-made c =
    let long : c.len-number.result ≡ length c.make.new.self.list.items = grind (arith, common_steps) in
    let done = c.in-Ok-make.ensures in
    opened_made c.args.journal.now c.make.new.journal c.args.pipeline.now c.requires.kept c.args.self.now c.make.new.self c.requires.listeners c.args.ask.now done.log
    (sym c.refusal.ensures ∙ c.in-None.is) c.index.result.now c.index.ensures c.in-Ok-make.opened done.opened done.made
    c.of.result (ap (λ (id : ListenerId). id.number) c.of.ensures ∙ long)

pub returns-in-Err-make-clause-listeners : goal.returns-in-Err-make-clause-listeners
returns-in-Err-make-clause-listeners c = same_listeners _ c.args.self.now c.make.new.self c.in-Err-make.ensures.same (subst (λ j. AreListeners (known_of j c.args.pipeline.now) c.args.self.now) (sym c.in-Err-make.ensures.journal) c.requires.listeners)
