-- A client at the end of its program continues along the same log with one step more.
use Rattle.std.proofs.Common.{◌≡◌, ℕ, Bool, true, false, List, [], ◌∷◌, ◌++◌, Option, None, Some, if◌then◌else◌, refl, ap, sym, ◌∙◌, subst, append_assoc}
use Rattle.std.specs.Prelude.{nat_eq, option_and_then}
use Rattle.std.specs.List.{fold}
use Rattle.std.specs.Option.{option_map}
use Rattle.sal_history.specs.declared.call.Entry.{Entry}
use Rattle.sal_history.specs.World.{Domain}
use Rattle.sal_script.specs.Moves.{Move}
use Rattle.sal_script.specs.Play.{Arrival, Client, Made, Meeting, Run, arrive, arrive_by, calls, ended, go, local, make, meet, replied, shared}
use Rattle.sal_script.specs.Tables.{Versions}
use Rattle.sal_script.specs.Along.{IsAt, along, new_run, pass}
use Rattle.sal_script.proofs.Along.{along_from, made_of}

-- a run with these steps after its own
abbrev pub before : List Move → Run → Run
before steps run = record { client = run.client; steps = run.steps ++ steps }

module _ (tables : List Versions) (world : List Domain) (steps : List Move) where
  -- the place of a client with these steps after those that brought it there
  abbrev pub onward : List Entry → Arrival → Arrival
  onward log (ended client) = arrive tables world log client steps
  onward log (calls call step run) = calls call step (before steps run)

  module _ (log : List Entry) where
    met_on : (m : Meeting) (client : Client) (step : Move) (rest : List Move) → ((next : Client) → arrive tables world log next (rest ++ steps) ≡ onward log (arrive tables world log next rest))
        → arrive_by (λ next. arrive tables world log next (rest ++ steps)) (λ call. calls call step (record { client = client; steps = rest ++ steps })) m
        ≡ onward log (arrive_by (λ next. arrive tables world log next rest) (λ call. calls call step (record { client = client; steps = rest })) m)
    met_on (local r next) client step rest more = more (replied r next)
    met_on (shared call) client step rest more = refl

    pub arrive_on : (first : List Move) (client : Client) → arrive tables world log client (first ++ steps) ≡ onward log (arrive tables world log client first)
    arrive_on [] client = refl
    arrive_on (step ∷ rest) client = met_on (meet tables world log client step) client step rest (λ next. arrive_on rest next)

  module _ (c : ℕ) where
    abbrev made_on : Option Made → Option Made
    made_on so_far = option_map (λ (made : Made). made_of made.log (before steps made.run)) so_far

    make_on : (log : List Entry) (a : Arrival) (made : Made) → make tables world log c a ≡ Some made → make tables world log c (onward log a) ≡ Some (made_of made.log (before steps made.run))
    make_on log (ended client) made is = cc
    make_on log (calls call step run) made is = ap made_on is

    -- the same entries of the client, and the same run with the steps after
    pass_on : (made next : Made) (e : Entry) → pass tables world c made e ≡ Some next → pass tables world c (made_of made.log (before steps made.run)) e ≡ Some (made_of next.log (before steps next.run))
    pass_on made next e is = by (nat_eq e.client c) is
      where
        by : (own : Bool) → (if own then go tables world made.log c made.run else Some (made_of (made.log ++ e ∷ []) made.run)) ≡ Some next
            → (if own then go tables world made.log c (before steps made.run) else Some (made_of (made.log ++ e ∷ []) (before steps made.run))) ≡ Some (made_of next.log (before steps next.run))
        by true went = ap (make tables world made.log c) (arrive_on made.log made.run.steps made.run.client) ∙ make_on made.log (arrive tables world made.log made.run.client made.run.steps) next went
        by false went = ap made_on went

    none_from : (log : List Entry) (last : Made) → along_from tables world c None log ≡ Some last → ⊥
    none_from [] last is = cc
    none_from (e ∷ log) last is = none_from log last is

    from_on : (log : List Entry) (made last : Made) → along_from tables world c (Some made) log ≡ Some last
        → along_from tables world c (Some (made_of made.log (before steps made.run))) log ≡ Some (made_of last.log (before steps last.run))
    from_on [] made last is = ap made_on is
    from_on (e ∷ log) made last is = by (pass tables world c made e) refl is (λ next on. from_on log next last on)
      where
        by : (o : Option Made) → pass tables world c made e ≡ o → along_from tables world c o log ≡ Some last
            → ((next : Made) → along_from tables world c (Some next) log ≡ Some last → along_from tables world c (Some (made_of next.log (before steps next.run))) log ≡ Some (made_of last.log (before steps last.run)))
            → along_from tables world c (pass tables world c (made_of made.log (before steps made.run)) e) log ≡ Some (made_of last.log (before steps last.run))
        by None went on more = absurd (none_from log last on)
        by (Some next) went on more = ap (λ (o : Option Made). along_from tables world c o log) (pass_on made next e went) ∙ more next on

    pub along_on : (log : List Entry) (first : List Move) (called : Run) → along tables world c log (new_run first) ≡ Some (made_of log called) → along tables world c log (new_run (first ++ steps)) ≡ Some (made_of log (before steps called))
    along_on log first called is = from_on log (made_of [] (new_run first)) (made_of log called) is

    -- at the end of its program, and so with steps after that
    pub at_longer : (log : List Entry) (first : List Move) (client : Client) → IsAt tables world c first log (record { client = client; steps = [] }) → IsAt tables world c (first ++ steps) log (record { client = client; steps = steps })
    at_longer log first client was = record {
      called = before steps was.called;
      follows = along_on log first was.called was.follows;
      answered = λ more. arrive_on (log ++ more) was.called.steps was.called.client ∙ ap (onward (log ++ more)) (was.answered more);
      began = was.began;
      listens = was.listens;
    }
