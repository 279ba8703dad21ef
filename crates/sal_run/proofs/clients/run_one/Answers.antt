-- The client makes the steps of its own program.
use Rattle.std.proofs.Common.{rules, ◌≡◌, ◌+◌, ◌*◌, ◌≤◌, List, Result, Ok, Err, Some, length, get_or, ap, sym, ◌∙◌, subst, refl}
use Rattle.std.specs.Prelude.{OnOk, slice_get}
use Rattle.std.proofs.lemmas.Option.{same_Some, slice_get_read}
use Rattle.sal_history.specs.declared.call.Entry.{Entry}
use Rattle.sal_history.specs.World.{Domain}
use Rattle.sal_turn.specs.Seats.{Place}
use Rattle.sal_broker.specs.Seats.{inside}
use Rattle.sal_broker.specs.Turns.{Keeps}
use Rattle.sal_script.specs.declared.script.ScriptStep.{ScriptStep}
use Rattle.sal_script.specs.Moves.{moves_of}
use Rattle.sal_script.specs.Orders.{exchanges_of}
use Rattle.sal_client.specs.Runs.{replies_in, run_of}
use Rattle.sal_run.specs.Looked.{Looked, late_looks}
use Rattle.sal_run.specs.Stands.{HasEnded, Stands}
use Rattle.sal_run.proofs.Everyone.{new_stands}
use Rattle.sal_run.proofs.Looking.{all_looked, all_replied, none_late}
use Rattle.sal_run.proofs.clients.run_one.Goals as goal

on_ok : {A E : Type 0} (r : Result A E) (P Q : Type 0) → (P → Q) → OnOk r P → OnOk r Q
on_ok (Ok a) P Q f p = f p
on_ok (Err e) P Q f p = tt

on_both : {A E : Type 0} (r : Result A E) (P Q S : Type 0) → (P → Q → S) → OnOk r P → OnOk r Q → OnOk r S
on_both (Ok a) P Q S f p q = f p q
on_both (Err e) P Q S f p q = tt

pub work-seat-requires-clause-stands : goal.work-seat-requires-clause-stands
work-seat-requires-clause-stands g c κs within =
    let programs = c.args.programs.now in
    let number = c.args.seated.now.run.client.number in
    let steps : List ScriptStep = c.items.result.now in
    let read : steps ≡ get_or programs number steps = c.items.ensures ∙ c.index-programs-seated.is ∙ ap (λ (d : List ScriptStep). get_or programs number d) (sym c.items.ensures) in
    let at : slice_get programs number ≡ Some steps = slice_get_read programs (length programs) number steps refl c.requires.new.has read in
    let seat_is : c.seat_in-seat.result ≡ inside c.args.seated.now.seat = search rules in
    subst (λ (p : Place Entry (List Domain)). Stands c.args.hall.now.readers.now steps p.view c.args.seated.now.run (run_of steps c.args.seated.now.run)) (sym seat_is)
    (new_stands c.args.hall.now.readers.now c.args.hall.now.sal.now programs c.args.seated.now steps c.requires.limits c.requires.json c.requires.new at)

pub returns : goal.returns
returns g c =
    let tables = c.args.hall.now.readers.now in
    let programs = c.args.programs.now in
    let number = c.args.seated.now.run.client.number in
    let steps : List ScriptStep = c.items.result.now in
    let read : steps ≡ get_or programs number steps = c.items.ensures ∙ c.index-programs-seated.is ∙ ap (λ (d : List ScriptStep). get_or programs number d) (sym c.items.ensures) in
    let at : slice_get programs number ≡ Some steps = slice_get_read programs (length programs) number steps refl c.requires.new.has read in
    let same = λ (other : List ScriptStep) (there : slice_get programs (inside c.args.seated.now.seat).view.number ≡ Some other). same_Some steps other (sym at ∙ ap (slice_get programs) c.requires.new.number ∙ there) in
    let did = c.work-seat.ensures in
    let w = c.work-seat.result.0.view in
    let run = c.work-seat.new.run in
    let v = (inside c.args.seated.now.seat).view in
    let seat_is : c.seat_in-seat.result ≡ inside c.args.seated.now.seat = search rules in
    let looked = subst (λ (p : Place Entry (List Domain)). OnOk c.work-seat.result.1 (Looked p.view w)) seat_is did.looks in
    record {
      there = search rules;
      keeps = subst (λ (p : Place Entry (List Domain)). Keeps c.args.hall.now.sal.now p c.work-seat.result.0) seat_is did.same;
      few = λ other there. subst (λ (p : List ScriptStep). length w.own ≤ length p) (same other there) did.few;
      ended = on_ok c.work-seat.result.1 (HasEnded tables steps w run) ((other : List ScriptStep) → slice_get programs (inside c.args.seated.now.seat).view.number ≡ Some other → HasEnded tables other w run)
          (λ is other there. subst (λ (p : List ScriptStep). HasEnded tables p w run) (same other there) is) did.ended;
      replied = on_ok c.work-seat.result.1 (HasEnded tables steps w run) ((other : List ScriptStep) → slice_get programs v.number ≡ Some other → length (replies_in run) ≡ length other)
          (λ is other there. subst (λ (p : List ScriptStep). length (replies_in run) ≡ length p) (same other there) (all_replied tables steps w run is)) did.ended;
      looks = on_both c.work-seat.result.1 (HasEnded tables steps w run) (Looked v w) ((other : List ScriptStep) → slice_get programs v.number ≡ Some other → v.turns + 4194304 * late_looks (exchanges_of (moves_of other) (replies_in run)) ≤ w.turns)
          (λ is looked other there. subst (λ (p : List ScriptStep). v.turns + 4194304 * late_looks (exchanges_of (moves_of p) (replies_in run)) ≤ w.turns) (same other there) (all_looked tables steps v w run (none_late v c.requires.new.none) is looked)) did.ended looked;
      full = did.full;
    }
