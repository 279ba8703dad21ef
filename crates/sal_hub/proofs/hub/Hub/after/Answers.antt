-- The entry is the log's next, and the rest is unchanged.
use Rattle.std.proofs.Common.{◌≡◌, ℕ, ◌<◌, Bool, true, false, length, refl, sym, ◌∙◌, arith, if◌then◌else◌}
use Rattle.std.proofs.lemmas.Grind.{common_steps}
use Rattle.sal_history.specs.declared.call.Call.TheVariants.{After}
use Rattle.sal_history.specs.declared.reply.Reply.TheVariants.{Found, Late}
use Rattle.sal_hub.specs.declared.chains.Chains.{Chains}
use Rattle.sal_hub.specs.declared.listeners.Listeners.{Listeners}
use Rattle.sal_hub.specs.declared.marks.Marks.{Marks}
use Rattle.sal_hub.specs.declared.pipeline.Pipeline.{Pipeline}
use Rattle.sal_hub.specs.declared.services.Services.{Services}
use Rattle.sal_hub.specs.Answers.{Made}
use Rattle.sal_hub.specs.Current.{known_of}
use Rattle.sal_hub.specs.HubHistory.{HubHistory, entry_of}
use Rattle.sal_hub.specs.Journals.{Noted, jotted, mark_at}
use Rattle.sal_hub.specs.Marks.{is_key}
use Rattle.sal_hub.specs.Whole.{IsWhole}
use Rattle.sal_hub.proofs.Beginning.{quiet_kept}
use Rattle.sal_hub.proofs.Wholes.{longer_now, made_over, seen_now, whole_steady}
use Rattle.sal_hub.proofs.hub.Hub.after.Goals as goal

module _ {j : Noted} (j' : Noted) {p : Pipeline} {cs : Chains} {ms : Marks} {ls : Listeners} {sv : Services} (whole : IsWhole j p cs ms ls sv) (client mark : ℕ) (log : j'.log ≡ jotted j.log client (After mark)) where
  looked_whole : ((k : ℕ) → mark_at j'.marks k ≡ mark_at j.marks k) → IsWhole j' p cs ms ls sv
  looked_whole marks =
      whole_steady j j' p p cs ms ls sv whole (quiet_kept j j' p whole.kept client (After mark) log refl refl refl refl (λ k. refl) refl marks)
      (entry_of (known_of j p) client (After mark)) (λ m. refl) refl refl (longer_now j j' p cs ms ls sv whole client (After mark) log) refl (λ id. refl) (λ id. refl) refl

  looked_made : (known : HubHistory) → known_of j p ≡ known → length j.log < 1000000 → (b : Bool) → is_key ms.map mark ≡ b → Made known (known_of j' p) (entry_of known client (After mark)) (if b then Found else Late)
  looked_made known view room b is = made_over j j' p cs ms ls sv whole client (After mark) log known (if b then Found else Late) view room (seen_now j p cs ms ls sv client mark b whole is)

pub invariant_of-self-then-has : goal.invariant_of-self-then-has
invariant_of-self-then-has c = looked_whole c.add.new.self c.self.invariant c.args.client c.args.mark c.in-Ok.ensures.log c.in-Ok.ensures.marks

pub returns-then-has-clause-answer : goal.returns-then-has-clause-answer
returns-then-has-clause-answer c =
    let room : length c.self.inside.journal.log < 1000000 = grind (arith, common_steps) in
    looked_made c.add.new.self c.self.invariant c.args.client c.args.mark c.in-Ok.ensures.log c.args.self.now c.self.view_is room true (sym c.has.ensures ∙ c.if-has.true)

pub invariant_of-self-2 : goal.invariant_of-self-2
invariant_of-self-2 c = looked_whole c.add.new.self c.self.invariant c.args.client c.args.mark c.in-Ok.ensures.log c.in-Ok.ensures.marks

pub returns-clause-answer : goal.returns-clause-answer
returns-clause-answer c =
    let room : length c.self.inside.journal.log < 1000000 = grind (arith, common_steps) in
    looked_made c.add.new.self c.self.invariant c.args.client c.args.mark c.in-Ok.ensures.log c.args.self.now c.self.view_is room false (sym c.has.ensures ∙ c.if-has.false)
