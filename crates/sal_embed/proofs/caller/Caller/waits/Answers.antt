-- By its run, if it has one.
use Rattle.std.proofs.Common.{Option, ap, sym, ◌∙◌, subst}
use Rattle.std.specs.Prelude.{MatchOption, ⊤}
use Rattle.std.specs.Option.{option_map_or}
use Rattle.sal_client.specs.declared.run.ClientRun.{ClientRun}
use Rattle.sal_client.specs.Clients.{client_of}
use Rattle.sal_embed.specs.Broker.{IsHeld}
use Rattle.sal_embed.specs.Waiting.{nothing, waiting}
use Rattle.sal_embed.proofs.caller.Caller.waits.Goals as goal

pub waiting_in-requires : goal.waiting_in-requires
waiting_in-requires c =
    let caller = c.args.self.now in
    (subst (λ (run : Option ClientRun). MatchOption run ⊤ (IsHeld c.args.hub.now caller.number)) c.in-Some.is c.requires.held).sound

pub returns-in-Some : goal.returns-in-Some
returns-in-Some c =
    let caller = c.args.self.now in
    c.waiting_in.ensures ∙ sym (ap (λ (run : Option ClientRun). option_map_or (λ (it : ClientRun). waiting c.args.hub.now caller.number (client_of it.client) c.args.slot) run nothing) c.in-Some.is)

pub returns-in-None : goal.returns-in-None
returns-in-None c =
    let caller = c.args.self.now in
    c.nothing.ensures ∙ sym (ap (λ (run : Option ClientRun). option_map_or (λ (it : ClientRun). waiting c.args.hub.now caller.number (client_of it.client) c.args.slot) run nothing) c.in-None.is)
