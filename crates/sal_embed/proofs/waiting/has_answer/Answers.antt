-- The request of the slot, or none.
use Rattle.std.proofs.Common.{Option, ap, ◌∙◌}
use Rattle.std.specs.Option.{option_map}
use Rattle.sal_script.specs.Play.{ask}
use Rattle.sal_script.specs.Services.{collect}
use Rattle.sal_hub.specs.declared.call_id.CallId.{CallId}
use Rattle.sal_client.specs.Clients.{client_of, request_of}
use Rattle.sal_embed.specs.Waiting.{gives_in}
use Rattle.sal_embed.proofs.waiting.has_answer.Goals as goal

pub returns-in-Some : goal.returns-in-Some
returns-in-Some c =
    let client = client_of c.args.run.now.client in
    c.has_answer.ensures ∙ ap (λ (id : Option CallId). gives_in c.args.hub.now c.args.client (ask (collect (option_map request_of id)) client)) c.in-Some.ensures

pub returns-in-None : goal.returns-in-None
returns-in-None c =
    let client = client_of c.args.run.now.client in
    ap (λ (id : Option CallId). gives_in c.args.hub.now c.args.client (ask (collect (option_map request_of id)) client)) c.in-None.ensures
