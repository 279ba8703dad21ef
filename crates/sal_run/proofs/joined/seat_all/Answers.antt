-- One more seat is off the opening one.
use Rattle.std.proofs.Common.{◌+◌, ◌++◌, ◌∷◌, [], List, ℕ, ap, sym, ◌∙◌, subst, arith}
use Rattle.sal_turn.specs.Lists.{In}
use Rattle.sal_turn.specs.Views.{newcomer}
use Rattle.sal_broker.specs.Seats.{SeatView}
use Rattle.sal_run.specs.Joined.{AreSeated}
use Rattle.sal_run.proofs.Everyone.{not_given, seated_more, upto_more}
use Rattle.sal_run.proofs.joined.seat_all.Goals as goal

pub seated-requires-clause-new : goal.seated-requires-clause-new
seated-requires-clause-new c i =
    let n = c.loop-number.number in
    let given = ap (λ (v : SeatView). v.given) c.loop-number.invariant.view in
    not_given n n (omega (arith, c.requires.few, c.loop-number-test.true)) (omega arith) (subst (In n) given i)

pub loop-number-preserved : goal.loop-number-preserved
loop-number-preserved c =
    let n = c.loop-number.number in
    let v = c.args.opening.now.view in
    let was = c.loop-number.invariant.view in
    record {
      lock = c.seated.ensures.giver.0;
      view = c.seated.ensures.giver.1 ∙ ap (λ (w : SeatView). record w { given = w.given ++ n ∷ [] }) was ∙ ap (λ (l : List ℕ). record v { given = 65535 ∷ l }) (upto_more n);
      runs = subst (AreSeated c.args.sal.now v (n + 1)) (sym c.in_ok-push.ensures.items)
          (seated_more c.args.sal.now v c.loop-number.opening.view n c.loop-number.runs.items c.seated.result c.loop-number.invariant.runs c.seated.ensures.seated (ap (newcomer n) was));
    }
