-- The client continues by its step, or stays as it was; or it is lost.
use Rattle.std.proofs.Common.{◌≡◌, ℕ, ◌≤◌, List, Option, length, refl, ap, sym, ◌∙◌, subst, arith}
use Rattle.std.specs.Prelude.{MatchOption, None, Some, ⊤}
use Rattle.std.specs.Option.{is_some}
use Rattle.sal_script.specs.declared.reply.StepReply.{StepReply}
use Rattle.sal_script.specs.Moves.{move_of}
use Rattle.sal_script.specs.Play.{Client}
use Rattle.sal_client.specs.Wishes.{GrowsAtMost}
use Rattle.sal_hub.specs.HubHistory.{HubHistory}
use Rattle.sal_client.specs.declared.run.ClientRun.{ClientRun}
use Rattle.sal_client.specs.declared.wish.RunFault.{RunFault}
use Rattle.sal_embed.specs.Answers.{Stops}
use Rattle.sal_embed.specs.Broker.{IsCaller, IsHeld}
use Rattle.sal_embed.specs.Callers.{IsSameAt}
use Rattle.sal_embed.proofs.Standing.{stands_on}
use Rattle.sal_embed.proofs.Turns.{same_world, stays_full, stays_lost}
use Rattle.sal_embed.proofs.caller.Caller.make.Goals as goal

pub returns-in-Ok-clause-made : goal.returns-in-Ok-clause-made
returns-in-Ok-clause-made c =
    let old = c.args.self.now in
    let a = c.in-Some.run' in
    let b = c.step_client.new.run in
    let new = record old { run = Some b } in
    let held : IsHeld c.args.hub.now old.number a = subst (λ (it : Option ClientRun). MatchOption it ⊤ (IsHeld c.args.hub.now old.number)) c.in-Some.is c.requires.caller.held in
    let answered = c.in-Ok.ensures.answers in
    let on = stands_on c.args.readers.now (move_of c.args.step.now) c.args.hub.now c.step_client.new.hub old new a b c.requires.readers c.in-Some.is refl held.number c.requires.told refl refl
    (same_world a.client.number c.args.hub.now c.step_client.new.hub c.step_client.ensures.grows) answered in
    (answered.0, on.0, sym (ap is_some c.in-Some.is), on.1)

pub returns-in-Ok-clause-caller : goal.returns-in-Ok-clause-caller
returns-in-Ok-clause-caller c =
    let old = c.args.self.now in
    let a = c.in-Some.run' in
    let b = c.step_client.new.run in
    let new = record old { run = Some b } in
    let held : IsHeld c.args.hub.now old.number a = subst (λ (it : Option ClientRun). MatchOption it ⊤ (IsHeld c.args.hub.now old.number)) c.in-Some.is c.requires.caller.held in
    let on = stands_on c.args.readers.now (move_of c.args.step.now) c.args.hub.now c.step_client.new.hub old new a b c.requires.readers c.in-Some.is refl held.number c.requires.told refl refl
    (same_world a.client.number c.args.hub.now c.step_client.new.hub c.step_client.ensures.grows) c.in-Ok.ensures.answers in
    record {
      number = refl;
      held = record {
        number = c.in-Ok.ensures.number ∙ held.number;
        sound = c.in-Ok.ensures.sound;
        few = subst (λ (rs : List StepReply). length rs ≤ 1) (sym on.0) (omega arith);
      };
    }

pub returns-in-Err-HistoryFull-clause-fails : goal.returns-in-Err-HistoryFull-clause-fails
returns-in-Err-HistoryFull-clause-fails c =
    let old = c.args.self.now in
    let known = c.args.hub.now in
    let a = c.in-Some.run' in
    let b = c.step_client.new.run in
    let new = record old { run = Some b } in
    let stops = subst (Stops known a.client c.step_client.new.hub b.client) c.in-Err-HistoryFull.field-0-is c.in-Err-HistoryFull.ensures.stops in
    (stops.0, sym (ap is_some c.in-Some.is), subst (λ (k : HubHistory). IsSameAt known old k new) (sym stops.1) (stays_full known old new refl refl refl a b c.in-Some.is refl stops.2))

pub returns-in-Err-NoMemory-clause-fails : goal.returns-in-Err-NoMemory-clause-fails
returns-in-Err-NoMemory-clause-fails c same =
    let old = c.args.self.now in
    let new = record old { run = None } in
    subst (λ (k : HubHistory). IsSameAt c.args.hub.now old k new) (sym same) (stays_lost c.args.hub.now old new refl refl refl refl c.requires.told)

pub returns-in-Err-HistoryFull-clause-caller : goal.returns-in-Err-HistoryFull-clause-caller
returns-in-Err-HistoryFull-clause-caller c =
    let old = c.args.self.now in
    let known = c.args.hub.now in
    let a = c.in-Some.run' in
    let b = c.step_client.new.run in
    let new = record old { run = Some b } in
    let held : IsHeld known old.number a = subst (λ (it : Option ClientRun). MatchOption it ⊤ (IsHeld known old.number)) c.in-Some.is c.requires.caller.held in
    let stops = subst (Stops known a.client c.step_client.new.hub b.client) c.in-Err-HistoryFull.field-0-is c.in-Err-HistoryFull.ensures.stops in
    subst (λ (k : HubHistory). IsCaller k old.number new) (sym stops.1) (record {
      number = refl;
      held = record {
        number = stops.2.number ∙ held.number;
        sound = stops.2.sound;
        few = subst (λ (rs : List StepReply). length rs ≤ 1) (sym (ap (λ (client : Client). client.replies) stops.2.client)) held.few;
      };
    })

pub returns-in-Ok-clause-grows : goal.returns-in-Ok-clause-grows
returns-in-Ok-clause-grows c =
    let old = c.args.self.now in
    let held : IsHeld c.args.hub.now old.number c.in-Some.run' = subst (λ (it : Option ClientRun). MatchOption it ⊤ (IsHeld c.args.hub.now old.number)) c.in-Some.is c.requires.caller.held in
    subst (λ (n : ℕ). GrowsAtMost n c.args.hub.now c.step_client.new.hub) held.number c.step_client.ensures.grows

pub returns-in-Err-HistoryFull-clause-grows : goal.returns-in-Err-HistoryFull-clause-grows
returns-in-Err-HistoryFull-clause-grows c =
    let old = c.args.self.now in
    let held : IsHeld c.args.hub.now old.number c.in-Some.run' = subst (λ (it : Option ClientRun). MatchOption it ⊤ (IsHeld c.args.hub.now old.number)) c.in-Some.is c.requires.caller.held in
    subst (λ (n : ℕ). GrowsAtMost n c.args.hub.now c.step_client.new.hub) held.number c.step_client.ensures.grows

pub returns-in-Err-NoMemory-clause-grows : goal.returns-in-Err-NoMemory-clause-grows
returns-in-Err-NoMemory-clause-grows c =
    let old = c.args.self.now in
    let held : IsHeld c.args.hub.now old.number c.in-Some.run' = subst (λ (it : Option ClientRun). MatchOption it ⊤ (IsHeld c.args.hub.now old.number)) c.in-Some.is c.requires.caller.held in
    subst (λ (n : ℕ). GrowsAtMost n c.args.hub.now c.step_client.new.hub) held.number c.step_client.ensures.grows
