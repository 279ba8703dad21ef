-- A client at its end has a reply to each of its steps, and its calls are its entries in the log.
use Rattle.std.proofs.Common.{◌≡◌, ℕ, Bool, true, false, List, [], ◌∷◌, ◌++◌, length, Option, None, Some, refl, ap, sym, ◌∙◌, subst, append-nil, true≢false}
use Rattle.std.specs.Prelude.{nat_eq}
use Rattle.std.proofs.lemmas.Bool.{eqb-true, eq-eqb}
use Rattle.std.proofs.lemmas.Option.{same_Some}
use Rattle.sal_history.specs.declared.call.Entry.{Entry}
use Rattle.sal_history.specs.World.{Domain}
use Rattle.sal_script.specs.Along.{IsAt, new_run}
use Rattle.sal_script.specs.Moves.{Move}
use Rattle.sal_script.specs.Orders.{Exchange, IsAnswered, exchanges_in}
use Rattle.sal_script.specs.Play.{Arrival, Client, Made, Run, arrive, ended, go}
use Rattle.sal_script.specs.Tables.{Versions}
use Rattle.sal_script.proofs.Along.{along_from, made_of, pass_other, pass_own}
use Rattle.sal_script.proofs.Arriving.{IsOnWay, Makes, MakesIf, Reaches, exchanges-other, makes, reaches}

module _ (tables : List Versions) (world : List Domain) (c : ℕ) (steps : List Move) where
  none_along : (log : List Entry) (last : Made) → along_from tables world c None log ≡ Some last → ⊥
  none_along [] last is = cc
  none_along (e ∷ log) last is = none_along log last is

  -- its place after that
  going : (log : List Entry) (run : Run) → IsOnWay world log c steps run → Reaches steps (exchanges_in world log c) (arrive tables world log run.client run.steps)
  going log run way =
      subst (λ (ms : List Move). Reaches ms (exchanges_in world log c) (arrive tables world log run.client run.steps)) (sym way.parts)
      (reaches tables world log run.steps way.done run.client (exchanges_in world log c) way.long way.so_far)

  on_way_along : (log : List Entry) (made last : Made) → IsOnWay world made.log c steps made.run → along_from tables world c (Some made) log ≡ Some last → IsOnWay world last.log c steps last.run
  on_way_along [] made last way is = subst (λ (m : Made). IsOnWay world m.log c steps m.run) (same_Some made last is) way
  on_way_along (e ∷ log) made last way is = by (nat_eq e.client c) refl (λ next going_on rest. on_way_along log next last going_on rest)
    where
      own : (o : Option Made) → MakesIf world made.log c steps o → along_from tables world c o log ≡ Some last
          → ((next : Made) → IsOnWay world next.log c steps next.run → along_from tables world c (Some next) log ≡ Some last → IsOnWay world last.log c steps last.run) → IsOnWay world last.log c steps last.run
      own None m is more = absurd (none_along log last is)
      own (Some next) m is more = more next m.run is

      by : (b : Bool) → nat_eq e.client c ≡ b
          → ((next : Made) → IsOnWay world next.log c steps next.run → along_from tables world c (Some next) log ≡ Some last → IsOnWay world last.log c steps last.run) → IsOnWay world last.log c steps last.run
      by true same more =
          own (go tables world made.log c made.run) (makes tables world made.log c steps (arrive tables world made.log made.run.client made.run.steps) (going made.log made.run way))
          (ap (λ (o : Option Made). along_from tables world c o log) (sym (pass_own tables world c made e (eqb-true e.client c same))) ∙ is) more
      by false differs more =
          let not_own : e.client ≡ c → ⊥ = λ own. true≢false (sym (eq-eqb e.client c own) ∙ differs) in
          more (made_of (made.log ++ e ∷ []) made.run)
          (record { done = way.done; parts = way.parts; long = way.long; so_far = way.so_far ∙ sym (exchanges-other world made.log e c not_own) })
          (ap (λ (o : Option Made). along_from tables world c o log) (sym (pass_other tables world c made e not_own)) ∙ is)

  pub answered_at : (log : List Entry) (client : Client) → IsAt tables world c steps log (record { client = client; steps = [] }) → IsAnswered world log c steps client.replies
  answered_at log client was =
      let start : IsOnWay world [] c steps (new_run steps) = record { done = []; parts = refl; long = refl; so_far = refl } in
      let way = on_way_along log (made_of [] (new_run steps)) (made_of log was.called) start was.follows in
      let end : arrive tables world log was.called.client was.called.steps ≡ ended client = subst (λ (l : List Entry). arrive tables world l was.called.client was.called.steps ≡ ended client) (append-nil log) (was.answered []) in
      let reached : Reaches steps (exchanges_in world log c) (ended client) = subst (λ (a : Arrival). Reaches steps (exchanges_in world log c) a) end (going log was.called way) in
      record { answered = reached.0; called = reached.1 }
