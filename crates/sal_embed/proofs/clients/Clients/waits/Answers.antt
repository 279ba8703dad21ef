-- The client that has a place, or one that has made no step.
use Rattle.std.proofs.Common.{◌≤◌, List, ap, sym, ◌∙◌, subst, ℕ, length}
use Rattle.std.specs.Prelude.{slice_get}
use Rattle.sal_embed.specs.declared.caller.Caller.{Caller}
use Rattle.sal_embed.specs.Broker.{IsCaller}
use Rattle.sal_embed.proofs.Made.{get_at}
use Rattle.sal_embed.proofs.Slots.{waits_before, waits_for}
use Rattle.sal_embed.proofs.clients.Clients.waits.Goals as goal

pub waits-requires : goal.waits-requires
waits-requires c =
    let it = c.args.self.now in
    let caller = c.in-Some.caller.now in
    let found = c.in-Some.ensures.lookup in
    let is = c.requires c.args.client caller (ap (λ (callers : List Caller). slice_get callers c.args.client) (sym c.deref.ensures.value) ∙ get_at c.deref.result.now c.args.client caller found.3.0 found.1) in
    subst (λ (n : ℕ). IsCaller it.hub n caller) (sym is.number) is

pub returns-in-Some : goal.returns-in-Some
returns-in-Some c =
    let it = c.args.self.now in
    let caller = c.in-Some.caller.now in
    let found = c.in-Some.ensures.lookup in
    let at = ap (λ (callers : List Caller). slice_get callers c.args.client) (sym c.deref.ensures.value) ∙ get_at c.deref.result.now c.args.client caller found.3.0 found.1 in
    let is = c.requires c.args.client caller at in
    waits_for it c.args.client c.args.slot c.waits.result caller at is.number c.waits.ensures

pub returns-in-None : goal.returns-in-None
returns-in-None c =
    let it = c.args.self.now in
    let out = subst (λ (callers : List Caller). length callers ≤ c.args.client) c.deref.ensures.value c.in-None.ensures.lookup.3 in
    waits_before it c.args.client c.args.slot c.waiting_before.result out c.waiting_before.ensures
