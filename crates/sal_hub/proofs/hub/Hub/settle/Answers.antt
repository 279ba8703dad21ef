-- The entry is the log's next, and what is kept stays the log's.
use Rattle.std.proofs.Common.{◌≡◌, ℕ, ◌+◌, ◌-◌, ◌<◌, ◌≤◌, Some, length, refl, ap, sym, subst, ◌∙◌, arith}
use Rattle.std.specs.Prelude.{Err, Ok, Result, slice_get}
use Rattle.std.proofs.lemmas.Grind.{common_steps}
use Rattle.sal_rows.specs.declared.outcome.CallFault.{CallFault}
use Rattle.sal_rows.specs.declared.outcome.CallFault.TheVariants.{NoMemory}
use Rattle.sal_rows.specs.declared.outcome.Outcome.{Outcome}
use Rattle.sal_history.specs.declared.call.Call.TheVariants.{Settle}
use Rattle.sal_history.specs.declared.reply.Reply.TheVariants.{Settled}
use Rattle.sal_history.specs.History.{sents}
use Rattle.sal_hub.specs.declared.chains.Chains.{Chains}
use Rattle.sal_hub.specs.declared.listeners.Listeners.{Listeners}
use Rattle.sal_hub.specs.declared.marks.Marks.{Marks}
use Rattle.sal_hub.specs.declared.pipeline.Pipeline.{Pipeline}
use Rattle.sal_hub.specs.declared.receipt.Receipt.{Receipt}
use Rattle.sal_hub.specs.declared.services.Services.{Services}
use Rattle.sal_hub.specs.Answers.{Calls, Made}
use Rattle.sal_hub.specs.Current.{IsKept, answers, known_of}
use Rattle.sal_hub.specs.Journals.{Noted, jotted, mark_at}
use Rattle.sal_hub.specs.HubHistory.{entry_of}
use Rattle.sal_hub.specs.PipelineView.{AllKept, AreDecided, Decides, queue_of}
use Rattle.sal_hub.specs.Whole.{IsWhole}
use Rattle.sal_hub.specs.Tokens.{IsGiven}
use Rattle.sal_hub.proofs.Settling.{few, given_within, settled_kept, settled_made, unsettled_kept, unsettled_known}
use Rattle.sal_hub.proofs.Wholes.{whole_called}
use Rattle.sal_hub.proofs.hub.Hub.settle.Goals as goal
use Rattle.sal_hub.proofs.hub.Hub.settle.Goals.{in-Ok, in-Err}

-- the same for the number that the code reads from the receipt
module _ (j j' : Noted) (p p' : Pipeline) (is : IsKept j p) (client : ℕ) (receipt : Receipt) (n : ℕ) (at : n ≡ receipt.number) (log : j'.log ≡ jotted j.log client (Settle n))
    (decided : Decides (queue_of p) (n - length p.outcomes.items) (queue_of p')) (o : Outcome) (outcome : slice_get p'.outcomes.items (n - 1) ≡ Some o) where
  log_now : j'.log ≡ jotted j.log client (Settle receipt.number)
  log_now = log ∙ ap (λ k. jotted j.log client (Settle k)) at

  decided_now : AreDecided (sents (answers j.log (queue_of p))) (queue_of p) (receipt.number - length p.outcomes.items) (queue_of p')
  decided_now = subst (λ k. AreDecided (sents (answers j.log (queue_of p))) (queue_of p) (k - length p.outcomes.items) (queue_of p')) at (decided (sents (answers j.log (queue_of p))) is.current.sound)

  outcome_now : slice_get p'.outcomes.items (receipt.number - 1) ≡ Some o
  outcome_now = subst (λ k. slice_get p'.outcomes.items (k - 1) ≡ Some o) at outcome

  settle_kept : AllKept p'.domains.items → p'.gone ≡ length p'.outcomes.items → ((k : ℕ) → mark_at j'.marks k ≡ mark_at j.marks k) → IsKept j' p'
  settle_kept kept gone marks = settled_kept j j' p p' is client receipt log_now decided_now kept gone marks

  settle_made : length j.log < 1000000 → IsGiven (known_of j p) receipt → Made (known_of j p) (known_of j' p') (entry_of (known_of j p) client (Settle receipt.number)) (Settled receipt.domain o)
  settle_made room token = settled_made j j' p p' is client receipt log_now decided_now o room token outcome_now

settle_whole : (j j' : Noted) (p p' : Pipeline) (cs : Chains) (ms : Marks) (ls : Listeners) (sv : Services) (whole : IsWhole j p cs ms ls sv) (client : ℕ) (receipt : Receipt) (n : ℕ) → n ≡ receipt.number → j'.log ≡ jotted j.log client (Settle n)
    → Decides (queue_of p) (n - length p.outcomes.items) (queue_of p') → (o : Outcome) → slice_get p'.outcomes.items (n - 1) ≡ Some o → AllKept p'.domains.items → p'.gone ≡ length p'.outcomes.items → ((k : ℕ) → mark_at j'.marks k ≡ mark_at j.marks k)
    → length j.log < 1000000 → IsGiven (known_of j p) receipt → IsWhole j' p' cs ms ls sv
settle_whole j j' p p' cs ms ls sv whole client receipt n at log decided o outcome kept gone marks room token =
    whole_called j j' p p' cs ms ls sv whole (settle_kept j j' p p' whole.kept client receipt n at log decided o outcome kept gone marks)
    (entry_of (known_of j p) client (Settle receipt.number)) (λ m. refl) (λ (o : Outcome). Settled receipt.domain o) (Ok o) refl refl (settle_made j j' p p' whole.kept client receipt n at log decided o outcome room token)
    (λ r. refl) (λ r id. refl) (λ r id. refl) (λ r. refl)

unsettled_whole : (j j' : Noted) (p p' : Pipeline) (cs : Chains) (ms : Marks) (ls : Listeners) (sv : Services) (whole : IsWhole j p cs ms ls sv) (client : ℕ) (receipt : Receipt) → AllKept p'.domains.items → queue_of p' ≡ queue_of p → j' ≡ j → IsWhole j' p' cs ms ls sv
unsettled_whole j j' p p' cs ms ls sv whole client receipt kept same undone =
    whole_called j j' p p' cs ms ls sv whole (unsettled_kept j j' p p' whole.kept kept same undone)
    (entry_of (known_of j p) client (Settle receipt.number)) (λ m. refl) (λ (o : Outcome). Settled receipt.domain o) (Err NoMemory) refl refl (unsettled_known j j' p p' same undone)
    (λ r. refl) (λ r id. refl) (λ r id. refl) (λ r. refl)

pub settle-requires-clause-kept : goal.settle-requires-clause-kept
settle-requires-clause-kept c = c.self.invariant.kept.kept

pub settle-requires-clause-sound : goal.settle-requires-clause-sound
settle-requires-clause-sound c = (sents (answers c.self.inside.journal.log (queue_of c.self.inside.pipeline)), c.self.invariant.kept.current.sound)

pub settle-requires-clause-some : goal.settle-requires-clause-some
settle-requires-clause-some c = omega (arith, c.requires.given.0, c.number-number.ensures)

pub settle-requires-clause-given : goal.settle-requires-clause-given
settle-requires-clause-given c =
    let j = c.self.inside.journal in
    let p = c.self.inside.pipeline in
    let token : IsGiven (known_of j p) c.args.receipt = subst (λ k. IsGiven k c.args.receipt) (sym c.self.view_is) c.requires.given in
    let within : c.args.receipt.number ≤ p.gone + length p.waiting.items = given_within j p c.args.receipt c.self.invariant.kept token in
    omega (arith, within, c.number-number.ensures)

pub settle-requires-clause-few : goal.settle-requires-clause-few
settle-requires-clause-few c =
    let j = c.self.inside.journal in
    let p = c.self.inside.pipeline in
    let room : length j.log < 1000000 = grind (arith, common_steps) in
    let within : p.gone + length p.waiting.items ≤ length j.log = few j p c.self.invariant.kept in
    omega (arith, within, room)

pub invariant_of-self : goal.invariant_of-self
invariant_of-self c =
    let j = c.self.inside.journal in
    let p = c.self.inside.pipeline in
    let receipt = c.args.receipt in
    let token : IsGiven (known_of j p) receipt = subst (λ k. IsGiven k receipt) (sym c.self.view_is) c.requires.given in
    let room : length j.log < 1000000 = grind (arith, common_steps) in
    elim c.match-settle.branch [
      | in-Ok w ↦ settle_whole j c.settle.new.journal p c.settle.new.self c.self.inside.chains c.self.inside.marks c.self.inside.listeners c.self.inside.services c.self.invariant c.args.client receipt c.number-number.result c.number-number.ensures
          w.in-Ok.ensures.log w.in-Ok.ensures.decided w.in-Ok.outcome w.in-Ok.ensures.outcome w.in-Ok.ensures.kept w.in-Ok.ensures.gone w.in-Ok.ensures.marks room token
      | in-Err w ↦ unsettled_whole j c.settle.new.journal p c.settle.new.self c.self.inside.chains c.self.inside.marks c.self.inside.listeners c.self.inside.services c.self.invariant c.args.client receipt w.in-Err.ensures.kept w.in-Err.ensures.same w.in-Err.ensures.journal
    ]

pub returns : goal.returns
returns c =
    let j = c.self.inside.journal in
    let p = c.self.inside.pipeline in
    let receipt = c.args.receipt in
    let token : IsGiven (known_of j p) receipt = subst (λ k. IsGiven k receipt) (sym c.self.view_is) c.requires.given in
    let room : length j.log < 1000000 = grind (arith, common_steps) in
    let answer : Calls c.args.self.now (known_of c.settle.new.journal c.settle.new.self) (entry_of c.args.self.now c.args.client (Settle receipt.number)) (λ (o : Outcome). Settled receipt.domain o) c.match-settle.result =
    elim c.match-settle.branch [
      | in-Ok w ↦ subst (λ (r : Result Outcome CallFault). Calls c.args.self.now (known_of c.settle.new.journal c.settle.new.self) (entry_of c.args.self.now c.args.client (Settle receipt.number)) (λ (o : Outcome). Settled receipt.domain o) r) (sym w.result-is)
          (subst (λ k. Made k (known_of c.settle.new.journal c.settle.new.self) (entry_of k c.args.client (Settle receipt.number)) (Settled receipt.domain w.in-Ok.outcome)) c.self.view_is
          (settle_made j c.settle.new.journal p c.settle.new.self c.self.invariant.kept c.args.client receipt c.number-number.result c.number-number.ensures w.in-Ok.ensures.log w.in-Ok.ensures.decided w.in-Ok.outcome w.in-Ok.ensures.outcome room token))
      | in-Err w ↦ subst (λ (r : Result Outcome CallFault). Calls c.args.self.now (known_of c.settle.new.journal c.settle.new.self) (entry_of c.args.self.now c.args.client (Settle receipt.number)) (λ (o : Outcome). Settled receipt.domain o) r) (sym w.result-is)
          (unsettled_known j c.settle.new.journal p c.settle.new.self w.in-Err.ensures.same w.in-Err.ensures.journal ∙ c.self.view_is)
    ] in
    record { answer = answer }
