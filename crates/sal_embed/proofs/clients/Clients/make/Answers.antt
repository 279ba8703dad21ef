-- One client makes its step; the others stay.
use Rattle.std.proofs.Common.{◌≡◌, ℕ, ◌≤◌, ◌<◌, Bool, false, true, List, Some, length, get_or, refl, ap, sym, ◌∙◌, subst, arith}
use Rattle.std.specs.Prelude.{slice_get}
use Rattle.std.proofs.lemmas.List.{length-set}
use Rattle.std.proofs.lemmas.Bool.{ltb-false}
use Rattle.sal_hub.specs.HubHistory.{HubHistory}
use Rattle.sal_script.specs.Moves.{move_of}
use Rattle.sal_script.specs.Tables.{tables_of}
use Rattle.sal_client.specs.Wishes.{GrowsAtMost}
use Rattle.sal_client.proofs.Soundness.{TokensLast}
use Rattle.sal_embed.specs.declared.caller.Caller.{Caller}
use Rattle.sal_embed.specs.Broker.{IsCaller}
use Rattle.sal_embed.specs.Callers.{Steps}
use Rattle.sal_embed.specs.Outcomes.{Makes}
use Rattle.sal_embed.proofs.Coming.{callers_beside}
use Rattle.sal_embed.proofs.Made.{get_at, makes_by}
use Rattle.sal_embed.proofs.Turns.{same_world}
use Rattle.sal_embed.proofs.clients.Clients.make.Goals as goal

pub step-made-requires-clause-caller : goal.step-made-requires-clause-caller
step-made-requires-clause-caller c =
    let callers = c.args.self.now.callers.items in
    let caller = c.index_mut-caller.result.now in
    let is = c.requires.callers c.args.client caller (get_at callers c.args.client caller c.requires.placed c.index_mut-caller.ensures.value) in
    subst (λ (n : ℕ). IsCaller c.args.self.now.hub n caller) (sym is.number) is

pub returns-clause-makes : goal.returns-clause-makes
returns-clause-makes c =
    let at = get_at c.args.self.now.callers.items c.args.client c.index_mut-caller.result.now c.requires.placed c.index_mut-caller.ensures.value in
    let is = c.requires.callers c.args.client c.index_mut-caller.result.now at in
    let grows = subst (λ (n : ℕ). GrowsAtMost n c.args.self.now.hub c.step-made.new.hub) is.number c.step-made.ensures.grows in
    let lasts : TokensLast = (c.tokens_last.ensures.begun, c.tokens_last.ensures.given, c.tokens_last.ensures.opened, c.tokens_last.ensures.called) in
    rw c.broken_if.ensures
    (makes_by lasts c.args.self.now _ c.args.client c.index_mut-caller.result.now c.step-made.new.self c.requires.placed at is.number refl grows (tables_of c.args.self.now.hub.world) (move_of c.args.step.now) c.has_grown.result
    (λ (not_grown : c.has_grown.result ≡ false).
    let few : length c.step-made.new.hub.log ≤ length c.log-calls.result.now = ltb-false (length c.log-calls.result.now) (length c.step-made.new.hub.log) (sym c.has_grown.ensures ∙ not_grown) in
    omega (arith, few, ap length c.log-calls.ensures)) refl c.step-made.result c.step-made.ensures.steps)

pub returns-clause-callers : goal.returns-clause-callers
returns-clause-callers c =
    let at = get_at c.args.self.now.callers.items c.args.client c.index_mut-caller.result.now c.requires.placed c.index_mut-caller.ensures.value in
    let is = c.requires.callers c.args.client c.index_mut-caller.result.now at in
    let grows = subst (λ (n : ℕ). GrowsAtMost n c.args.self.now.hub c.step-made.new.hub) is.number c.step-made.ensures.grows in
    callers_beside (c.tokens_last.ensures.begun, c.tokens_last.ensures.given, c.tokens_last.ensures.opened, c.tokens_last.ensures.called) c.args.self.now.hub c.step-made.new.hub c.args.client grows c.args.self.now.callers.items c.step-made.new.self
    c.requires.placed c.requires.callers (subst (λ (n : ℕ). IsCaller c.step-made.new.hub n c.step-made.new.self) is.number c.step-made.ensures.caller)

pub returns-clause-world : goal.returns-clause-world
returns-clause-world c = same_world c.index_mut-caller.result.now.number c.args.self.now.hub c.step-made.new.hub c.step-made.ensures.grows
