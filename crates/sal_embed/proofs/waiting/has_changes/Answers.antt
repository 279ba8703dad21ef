-- The listener of the slot is one that the log made; or there is none.
use Rattle.std.proofs.Common.{Option, ap, sym, ◌∙◌}
use Rattle.std.specs.Option.{option_map}
use Rattle.sal_script.specs.Play.{take_batch}
use Rattle.sal_client.specs.declared.follower.Follower.{Follower}
use Rattle.sal_client.specs.Clients.{client_of}
use Rattle.sal_client.specs.Followers.{listener_of}
use Rattle.sal_client.proofs.Following.{token_of}
use Rattle.sal_embed.specs.Waiting.{gives_in}
use Rattle.sal_embed.proofs.waiting.has_changes.Goals as goal

pub has_commits-requires : goal.has_commits-requires
has_commits-requires c =
    let f = c.in-Some.follower.now in
    record { token = token_of c.args.hub.now c.args.run.now.client.number f (c.requires.listeners c.args.slot f (sym c.in-Some.ensures)) }

pub returns-in-Some : goal.returns-in-Some
returns-in-Some c =
    let client = client_of c.args.run.now.client in
    c.has_commits.ensures ∙ ap (λ (f : Option Follower). gives_in c.args.hub.now c.args.client (take_batch client (option_map listener_of f))) c.in-Some.ensures

pub returns-in-None : goal.returns-in-None
returns-in-None c =
    let client = client_of c.args.run.now.client in
    ap (λ (f : Option Follower). gives_in c.args.hub.now c.args.client (take_batch client (option_map listener_of f))) c.in-None.ensures
