-- The chain is closed, and the entry is the log's next.
use Rattle.std.proofs.Common.{◌≡◌, ℕ, ◌-◌, ◌<◌, ◌≤◌, Bool, List, length, set, true, refl, ap, sym, ◌∙◌, subst, arith}
use Rattle.std.specs.Vec.{with_items}
use Rattle.std.proofs.lemmas.Grind.{common_steps}
use Rattle.std.proofs.lemmas.List.{length-set, with_items_is}
use Rattle.sal_history.specs.declared.call.Call.TheVariants.{CloseChain}
use Rattle.sal_history.specs.History.{entries_of}
use Rattle.sal_hub.specs.declared.chain.Chain.{Chain}
use Rattle.sal_hub.specs.declared.chains.Chains.{Chains}
use Rattle.sal_hub.specs.declared.listeners.Listeners.{Listeners}
use Rattle.sal_hub.specs.declared.marks.Marks.{Marks}
use Rattle.sal_hub.specs.declared.pipeline.Pipeline.{Pipeline}
use Rattle.sal_hub.specs.declared.services.Services.{Services}
use Rattle.sal_hub.specs.Current.{known_of}
use Rattle.sal_hub.specs.Failures.{flag_in}
use Rattle.sal_hub.specs.Journals.{Noted, jotted, mark_at}
use Rattle.sal_hub.specs.Tokens.{IsChain}
use Rattle.sal_hub.specs.Whole.{IsWhole}
use Rattle.sal_hub.proofs.Beginning.{quiet_kept}
use Rattle.sal_hub.proofs.ChainCalls.{id_within}
use Rattle.sal_hub.proofs.Wholes.{chains_whole, close_whole, longer_now}
use Rattle.sal_hub.proofs.hub.Hub.close_chain.Goals as goal

closed_whole : (j j' : Noted) (p : Pipeline) (cs : Chains) (ms : Marks) (ls : Listeners) (sv : Services) → IsWhole j p cs ms ls sv → (client : ℕ) (chain : Chain) → IsChain (known_of j p) chain → (n : ℕ) → n ≡ chain.id
    → (old new : List Bool) → old ≡ cs.closed.items → length old ≡ cs.closed.len → length j.log < 1000000 → (was : Bool) → was ≡ flag_in old n → new ≡ set old (n - 1) true → j'.log ≡ jotted j.log client (CloseChain n)
    → ((k : ℕ) → mark_at j'.marks k ≡ mark_at j.marks k) → let cs' : Chains = record { domains = cs.domains; closed = with_items cs.closed new; begun = cs.begun; sent = cs.sent } in IsWhole j' p cs' ms ls sv
closed_whole j j' p cs ms ls sv whole client chain token n id old new at len room was was_is closed_is log_is marks =
    let within : chain.id ≤ length cs.domains.items = id_within j p whole.kept cs whole.chains chain token in
    let high : chain.id ≤ length cs.closed.items = omega (arith, within, whole.chains.even.closed) in
    let log : j'.log ≡ jotted j.log client (CloseChain chain.id) = log_is ∙ ap (λ n. jotted j.log client (CloseChain n)) id in
    let before : was ≡ flag_in cs.closed.items chain.id = was_is ∙ (λ i. flag_in (at i) (id i)) in
    let closed : new ≡ set cs.closed.items (chain.id - 1) true = closed_is ∙ (λ i. set (at i) (id i - 1) true) in
    let long : length new ≡ cs.closed.len = ap length closed_is ∙ length-set old (n - 1) true ∙ len in
    let cs' : Chains = record { domains = cs.domains; closed = with_items cs.closed new; begun = cs.begun; sent = cs.sent } in
    close_whole j j' p p cs ms ls sv whole (quiet_kept j j' p whole.kept client (CloseChain chain.id) log refl refl refl refl (λ k. refl) refl marks)
    client (entries_of j.log client) chain.id token.0 high was before (longer_now j j' p cs ms ls sv whole client (CloseChain chain.id) log)
    cs' room refl (with_items_is cs.closed new long ∙ closed) refl refl

pub invariant_of-self : goal.invariant_of-self
invariant_of-self c =
    let done = c.in-Ok-true.ensures in
    closed_whole c.self.inside.journal c.close_chain.new.journal c.self.inside.pipeline c.self.inside.chains c.self.inside.marks c.self.inside.listeners c.self.inside.services c.self.invariant
    c.args.client c.args.chain.now (subst (λ k. IsChain k c.args.chain.now) (sym c.self.view_is) c.requires.token) c.id.result c.id.ensures
    c.deref_mut.result.now c.close_chain.new.closed c.deref_mut.ensures.value c.deref_mut.ensures.len (grind (arith, common_steps)) c.in-Ok-true.field-0 done.was done.closed done.log done.marks

pub invariant_of-self-2 : goal.invariant_of-self-2
invariant_of-self-2 c =
    let done = c.in-Ok-false.ensures in
    closed_whole c.self.inside.journal c.close_chain.new.journal c.self.inside.pipeline c.self.inside.chains c.self.inside.marks c.self.inside.listeners c.self.inside.services c.self.invariant
    c.args.client c.args.chain.now (subst (λ k. IsChain k c.args.chain.now) (sym c.self.view_is) c.requires.token) c.id.result c.id.ensures
    c.deref_mut.result.now c.close_chain.new.closed c.deref_mut.ensures.value c.deref_mut.ensures.len (grind (arith, common_steps)) c.in-Ok-false.field-0 done.was done.closed done.log done.marks

pub invariant_of-self-in-Err : goal.invariant_of-self-in-Err
invariant_of-self-in-Err c =
    let j = c.self.inside.journal in
    let p = c.self.inside.pipeline in
    let cs = c.self.inside.chains in
    let done = c.in-Err.ensures in
    let long : length c.close_chain.new.closed ≡ cs.closed.len = ap length done.same ∙ c.deref_mut.ensures.len in
    let cs' : Chains = record { domains = cs.domains; closed = with_items cs.closed c.close_chain.new.closed; begun = cs.begun; sent = cs.sent } in
    chains_whole j c.close_chain.new.journal p cs cs' c.self.inside.marks c.self.inside.listeners c.self.inside.services c.self.invariant done.journal
    (record { domains = refl; closed = with_items_is cs.closed c.close_chain.new.closed long ∙ done.same ∙ c.deref_mut.ensures.value; begun = refl; sent = refl })
