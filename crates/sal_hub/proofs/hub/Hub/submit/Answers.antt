-- The submission is the last of its chain, if it is of one.
use Rattle.std.proofs.Common.{◌≡◌, List, ℕ, Option, length, refl, ap, sym, ◌∙◌, subst}
use Rattle.std.specs.Vec.{with_items}
use Rattle.std.proofs.lemmas.List.{with_items_is}
use Rattle.sal_tx.specs.declared.begun.Begun.{Begun}
use Rattle.sal_tx.specs.Views.{rows_in}
use Rattle.sal_history.specs.declared.call.Call.TheVariants.{Submit}
use Rattle.sal_history.specs.History.{entries_of}
use Rattle.sal_history.specs.Submissions.{Base}
use Rattle.sal_hub.specs.declared.chains.Chains.{Chains}
use Rattle.sal_hub.specs.Current.{known_of}
use Rattle.sal_hub.specs.Failures.{IsWithin, noted_with}
use Rattle.sal_hub.specs.HubHistory.{entry_of}
use Rattle.sal_hub.proofs.Noted.{length-with}
use Rattle.sal_hub.proofs.Wholes.{member_failures, member_sent, submit_whole, token_began, whole_fails}
use Rattle.sal_hub.proofs.hub.Hub.submit.Goals as goal

pub submit-requires-clause-member : goal.submit-requires-clause-member
submit-requires-clause-member c = member_failures c.self.inside.journal c.self.inside.pipeline c.self.inside.chains c.self.inside.marks c.self.inside.listeners c.self.inside.services c.self.invariant c.args.self.now c.self.view_is c.args.tx.begun c.args.tx.mode c.args.tx.base c.requires.token

pub note-requires : goal.note-requires
note-requires c =
    let is : IsWithin (length c.self.inside.chains.sent.items) c.args.tx.begun.chain = member_sent c.self.inside.journal c.self.inside.pipeline c.self.inside.chains c.self.inside.marks c.self.inside.listeners c.self.inside.services c.self.invariant c.args.self.now c.self.view_is c.args.tx.begun c.args.tx.mode c.args.tx.base c.requires.token in
    subst (λ (notes : List (Option ℕ)). IsWithin (length notes) c.begun.result.now.chain) (sym c.deref_mut.ensures.value)
    (subst (λ (b : Begun). IsWithin (length c.self.inside.chains.sent.items) b.chain) (sym c.begun.ensures) is)

pub invariant_of-self : goal.invariant_of-self
invariant_of-self c =
    let j = c.self.inside.journal in
    let p = c.self.inside.pipeline in
    let cs = c.self.inside.chains in
    let ms = c.self.inside.marks in
    let tx = c.args.tx in
    let b : Base = record { domain = tx.begun.domain; commit = tx.begun.base_commit; chain = tx.begun.chain; trees = rows_in tx.base } in
    let noted : c.note.new.notes ≡ noted_with cs.sent.items tx.begun.chain c.in-Ok.receipt.number =
    c.note.ensures ∙ (λ i. noted_with (c.deref_mut.ensures.value i) (c.begun.ensures i).chain (c.number.ensures i)) in
    let long : length c.note.new.notes ≡ cs.sent.len =
    ap length c.note.ensures ∙ length-with c.deref_mut.result.now c.begun.result.now.chain c.number.result ∙ c.deref_mut.ensures.len in
    let cs' : Chains = record { domains = cs.domains; closed = cs.closed; begun = cs.begun; sent = with_items cs.sent c.note.new.notes } in
    submit_whole j c.submit.new.journal p c.submit.new.pipeline cs ms c.self.inside.listeners c.self.inside.services c.self.invariant c.in-Ok.ensures.kept c.args.client (entries_of j.log c.args.client) tx.begun.place tx.changes c.in-Ok.receipt.number b cs'
    (token_began j p cs ms c.self.inside.listeners c.self.inside.services c.self.invariant c.args.self.now c.self.view_is tx.begun tx.mode tx.base c.requires.token) c.in-Ok.ensures.answer
    (member_sent j p cs ms c.self.inside.listeners c.self.inside.services c.self.invariant c.args.self.now c.self.view_is tx.begun tx.mode tx.base c.requires.token) refl refl refl (with_items_is cs.sent c.note.new.notes long ∙ noted)

pub invariant_of-self-in-Err : goal.invariant_of-self-in-Err
invariant_of-self-in-Err c =
    let j = c.self.inside.journal in
    let p = c.self.inside.pipeline in
    whole_fails j c.submit.new.journal p c.submit.new.pipeline c.self.inside.chains c.self.inside.marks c.self.inside.listeners c.self.inside.services c.self.invariant c.in-Err.ensures.kept (entry_of (known_of j p) c.args.client (Submit c.args.tx.begun.place c.args.tx.changes)) (λ m. refl)
    refl c.in-Err.back.1 c.in-Err.ensures.answer.1
