-- The client makes its call on the hub that its turn found.
use Rattle.std.proofs.Common.{ℕ, List, sym, ◌∙◌, subst}
use Rattle.sal_script.specs.Tables.{Versions, versions_of}
use Rattle.sal_client.specs.Wishes.{ReadBy}
use Rattle.sal_hub.specs.HubHistory.{HubHistory}
use Rattle.sal_client.specs.Clients.{IsSound, client_of}
use Rattle.sal_client.specs.Runs.{MakesNext, asking}
use Rattle.sal_run.proofs.Looking.{looked_once}
use Rattle.sal_run.proofs.Standing.{few_left, found_stands, left_stands}
use Rattle.sal_run.proofs.worker.Worker.call.Goals as goal

pub make-made-requires-clause-sound : goal.make-made-requires-clause-sound
make-made-requires-clause-sound g c =
    let last = c.tokens_last.ensures in
    let enters = c.turn_for-held.ensures.enters in
    let found = found_stands (last.begun, last.given, last.opened, last.called) c.args.self.now.readers.now c.args.self.now.steps.now c.args.seat.view c.args.self.now.sal.now c.turn_for-held.result c.args.run.now (asking c.args.wish c.args.self.now.steps.now c.args.run.now) enters c.requires.stands in
    subst (λ (k : HubHistory). IsSound k c.args.run.now.client) (sym (c.hub.ensures.value ∙ enters.hub)) found.sound

pub make-made-requires-clause-read : goal.make-made-requires-clause-read
make-made-requires-clause-read g c =
    let last = c.tokens_last.ensures in
    let enters = c.turn_for-held.ensures.enters in
    let found = found_stands (last.begun, last.given, last.opened, last.called) c.args.self.now.readers.now c.args.self.now.steps.now c.args.seat.view c.args.self.now.sal.now c.turn_for-held.result c.args.run.now (asking c.args.wish c.args.self.now.steps.now c.args.run.now) enters c.requires.stands in
    subst (λ (k : HubHistory). ReadBy (versions_of k.world) c.args.wish) (sym (c.hub.ensures.value ∙ enters.hub)) (subst (λ (tables : List Versions). ReadBy tables c.args.wish) found.reads c.requires.read)

pub returns-in-Ok-clause-few : goal.returns-in-Ok-clause-few
returns-in-Ok-clause-few g c =
    few_left c.args.self.now.sal.now c.args.seat.view c.leave-seat.result.view c.turn_for-held.result c.args.run.now.client.number c.args.run.now.at c.hub.result.now c.make-made.new.hub
    c.turn_for-held.ensures.enters c.requires.stands.number c.hub.ensures.value c.make-made.ensures.grows c.leave-seat.ensures.turn c.requires.room

pub returns-in-Ok-clause-goes : goal.returns-in-Ok-clause-goes
returns-in-Ok-clause-goes g c made =
    let last = c.tokens_last.ensures in
    let tables = c.args.self.now.readers.now in
    let old = c.args.run.now in
    let new = c.make-made.new.self in
    let left = c.make-made.new.hub in
    let makes = subst (λ (k : HubHistory). MakesNext tables old.client.number k c.args.wish (client_of old.client) left (client_of new.client)) c.hub.ensures.value (c.in-Ok.ensures.makes tables c.requires.read) in
    left_stands (last.begun, last.given, last.opened, last.called) tables c.args.self.now.steps.now c.args.seat.view c.args.self.now.sal.now c.turn_for-held.result left c.leave-seat.result.view c.args.wish old new
    c.turn_for-held.ensures.enters c.leave-seat.ensures.same.1 c.leave-seat.ensures.turn makes c.in-Ok.ensures.sound c.in-Ok.ensures.at c.in-Ok.ensures.number c.requires.stands

pub returns-in-Err-clause-few : goal.returns-in-Err-clause-few
returns-in-Err-clause-few g c =
    few_left c.args.self.now.sal.now c.args.seat.view c.leave-seat.result.view c.turn_for-held.result c.args.run.now.client.number c.args.run.now.at c.hub.result.now c.make-made.new.hub
    c.turn_for-held.ensures.enters c.requires.stands.number c.hub.ensures.value c.make-made.ensures.grows c.leave-seat.ensures.turn c.requires.room

pub returns-in-Ok-clause-looks : goal.returns-in-Ok-clause-looks
returns-in-Ok-clause-looks g c =
    let tables = c.args.self.now.readers.now in
    let steps = c.args.self.now.steps.now in
    let v = c.args.seat.view in
    let old = c.args.run.now in
    let new = c.make-made.new.self in
    let left = c.make-made.new.hub in
    let enters = c.turn_for-held.ensures.enters in
    let made = subst (λ (k : HubHistory). MakesNext tables old.client.number k c.args.wish (client_of old.client) left (client_of new.client)) (c.hub.ensures.value ∙ enters.hub) (c.in-Ok.ensures.makes tables c.requires.read) in
    let makes = subst (λ (n : ℕ). MakesNext tables n c.turn_for-held.result.found c.args.wish (client_of old.client) left (client_of new.client)) c.requires.stands.number made in
    looked_once tables steps c.args.self.now.sal.now v c.leave-seat.result.view c.turn_for-held.result left c.args.wish old (asking c.args.wish steps old) (client_of new.client)
    enters c.turn_for-held.ensures.looks c.leave-seat.ensures.same.1 c.leave-seat.ensures.turns c.leave-seat.ensures.turn c.requires.stands makes
