-- How a client comes along a log, entry by entry.
use Rattle.std.proofs.Common.{◌≡◌, ℕ, ◌+◌, Bool, true, false, List, [], ◌∷◌, ◌++◌, length, Option, None, Some, if◌then◌else◌, refl, ap, sym, ◌∙◌, subst, arith, append_assoc, append-nil, true≢false}
use Rattle.std.specs.Prelude.{nat_eq, option_and_then}
use Rattle.std.specs.List.{filter, fold}
use Rattle.std.specs.Option.{option_map}
use Rattle.std.proofs.lemmas.Bool.{eq-eqb, ne_eqb}
use Rattle.std.proofs.lemmas.List.Sums.{fold-append, length-filter, sum_by-append, sum_by-cons}
use mathlib.Core.List.{IsPrefix}
use Rattle.sal_history.specs.declared.call.Call.{Call}
use Rattle.sal_history.specs.declared.call.Entry.{Entry}
use Rattle.sal_history.specs.Versions.{schema_version}
use Rattle.sal_history.specs.World.{Domain}
use Rattle.sal_history.specs.History.{entries_of, reply, history}
use Rattle.sal_script.specs.declared.reply.StepReply.{StepReply}
use Rattle.sal_script.specs.declared.reply.StepReply.TheVariants.{Called}
use Rattle.sal_script.specs.Moves.{Move}
use Rattle.sal_script.specs.Play.{spot_after, Arrival, Client, Listener, Made, Meeting, Open, Run, arrive, arrive_by, calls, ended, go, keep, local, make, meet, replied, replies_at, shared}
use Rattle.sal_script.specs.Tables.{Versions}
use Rattle.sal_script.specs.Along.{PerformsAlong, IsAt, Left, along, finish, new_run, pass}
use Rattle.sal_script.proofs.Later.{BegunIf, began_longer, keep_begun, meet_begun, meet_later}
use Rattle.sal_script.proofs.Listening.{keep_listens, listens_longer, listens_same}

abbrev pub made_of : List Entry → Run → Made
made_of log run = record { log = log; run = run }

module _ (tables : List Versions) (world : List Domain) (c : ℕ) where
  -- from some place on
  abbrev pub along_from : Option Made → List Entry → Option Made
  along_from so_far log = fold (λ made e. option_and_then (λ m. pass tables world c m e) made) so_far log

  pub pass_other : (made : Made) (e : Entry) → (e.client ≡ c → ⊥) → pass tables world c made e ≡ Some (made_of (made.log ++ e ∷ []) made.run)
  pass_other made e other = ap (λ (is : Bool). if is then go tables world made.log c made.run else Some (made_of (made.log ++ e ∷ []) made.run)) (ne_eqb e.client c other)

  pub pass_own : (made : Made) (e : Entry) → e.client ≡ c → pass tables world c made e ≡ go tables world made.log c made.run
  pass_own made e own = ap (λ (is : Bool). if is then go tables world made.log c made.run else Some (made_of (made.log ++ e ∷ []) made.run)) (eq-eqb e.client c own)

  pub along-push : (log : List Entry) (e : Entry) (run : Run) (made : Made) → along tables world c log run ≡ Some made → along tables world c (log ++ e ∷ []) run ≡ pass tables world c made e
  along-push log e run made was =
      fold-append (λ (so_far : Option Made) (x : Entry). option_and_then (λ m. pass tables world c m x) so_far) (Some (made_of [] run)) log (e ∷ [])
      ∙ ap (option_and_then (λ (m : Made). pass tables world c m e)) was

  -- the client's next step over a log
  step_on : (log : List Entry) (client : Client) (step : Move) (rest : List Move) (m : Meeting) → meet tables world log client step ≡ m
      → arrive tables world log client (step ∷ rest) ≡ arrive_by (λ next. arrive tables world log next rest) (λ call. calls call step (record { client = client; steps = rest })) m
  step_on log client step rest m is = ap (arrive_by (λ next. arrive tables world log next rest) (λ call. calls call step (record { client = client; steps = rest }))) is

  -- an entry that the client made
  abbrev pub entry_at : List Entry → Call → Entry
  entry_at log call = record { client = c; number = entries_of log c; call = call }

  -- and what it leaves with the client
  abbrev pub after_call : List Entry → Client → Move → Call → Client
  after_call log client step call = replied (Called (reply world log (entry_at log call))) (keep (spot_after world log) step (reply world log (entry_at log call)) client)

  module _ (steps : List Move) where
    -- before its first step
    pub at_start : IsAt tables world c steps [] (new_run steps)
    at_start = record { called = new_run steps; follows = refl; answered = λ more. refl; began = λ slot tx at. absurd (nothing tx at); listens = λ slot l at. absurd (deaf l at) }
      where
        nothing : (tx : Open) → (let none : Option Open = None in none) ≡ Some tx → ⊥
        nothing tx at = cc

        deaf : (l : Listener) → (let none : Option Listener = None in none) ≡ Some l → ⊥
        deaf l at = cc

    -- after an entry of another client
    pub at_other : (log : List Entry) (now : Run) (e : Entry) → (e.client ≡ c → ⊥) → IsAt tables world c steps log now → IsAt tables world c steps (log ++ e ∷ []) now
    at_other log now e other was = record {
      called = was.called;
      follows = along-push log e (new_run steps) (made_of log was.called) was.follows ∙ pass_other (made_of log was.called) e other;
      answered = λ more. subst (λ (l : List Entry). arrive tables world l was.called.client was.called.steps ≡ arrive tables world l now.client now.steps) (sym (append_assoc log (e ∷ []) more)) (was.answered (e ∷ more));
      began = began_longer log (e ∷ []) now.client was.began;
      listens = listens_longer world c log (e ∷ []) now.client was.listens;
    }

    -- after some entries of others
    pub at_others : (more log : List Entry) (now : Run) → entries_of more c ≡ 0 → IsAt tables world c steps log now → IsAt tables world c steps (log ++ more) now
    at_others [] log now none was = subst (λ (l : List Entry). IsAt tables world c steps l now) (sym (append-nil log)) was
    at_others (e ∷ more) log now none was =
        subst (λ (l : List Entry). IsAt tables world c steps l now) (append_assoc log (e ∷ []) more)
        (first (nat_eq e.client c) refl (sym (sum_by-cons (λ (x : Entry). if nat_eq x.client c then 1 else 0) e more) ∙ none) (λ none' behind. at_others more (log ++ e ∷ []) now none' behind))
      where
        first : (own : Bool) → nat_eq e.client c ≡ own → (if own then 1 else 0) + entries_of more c ≡ 0
            → (entries_of more c ≡ 0 → IsAt tables world c steps (log ++ e ∷ []) now → IsAt tables world c steps ((log ++ e ∷ []) ++ more) now) → IsAt tables world c steps ((log ++ e ∷ []) ++ more) now
        first true is none' rest = absurd (omega (arith, none'))
        first false is none' rest = rest (omega (arith, none')) (at_other log now e (λ own. true≢false (sym (eq-eqb e.client c own) ∙ is)) was)

    -- in a log that a turn found, with no further entry of the client
    pub at_found : (log found : List Entry) (now : Run) → IsPrefix log found → entries_of found c ≡ entries_of log c → IsAt tables world c steps log now → IsAt tables world c steps found now
    at_found log found now begins same was =
        let more : List Entry = begins.0 in
        let count : entries_of found c ≡ entries_of log c + entries_of more c = ap (λ (l : List Entry). entries_of l c) (sym begins.1) ∙ sum_by-append (λ (x : Entry). if nat_eq x.client c then 1 else 0) log more in
        subst (λ (l : List Entry). IsAt tables world c steps l now) begins.1 (at_others more log now (omega (arith, count, same)) was)

    -- the same, if the client's own entries are known
    pub at_found_own : (log found own : List Entry) (now : Run) → IsPrefix log found → filter (λ (e : Entry). nat_eq e.client c) log ≡ own → filter (λ (e : Entry). nat_eq e.client c) found ≡ own
        → IsAt tables world c steps log now → IsAt tables world c steps found now
    at_found_own log found own now begins before after was =
        at_found log found now begins
        (sym (length-filter (λ (e : Entry). nat_eq e.client c) found) ∙ ap length (after ∙ sym before) ∙ length-filter (λ (e : Entry). nat_eq e.client c) log) was

    -- after a step that the client answered by itself
    pub at_local : (log : List Entry) (client next : Client) (step : Move) (rest : List Move) (r : StepReply) → meet tables world log client step ≡ local r next
        → IsAt tables world c steps log (record { client = client; steps = step ∷ rest }) → IsAt tables world c steps log (record { client = replied r next; steps = rest })
    at_local log client next step rest r met was = record {
      called = was.called;
      follows = was.follows;
      answered = λ more. was.answered more ∙ step_on (log ++ more) client step rest (local r next) (meet_later tables world log more client step was.began (λ slot l at. (was.listens slot l at).reached) ∙ met);
      began = begun.0;
      listens = listens_same world c log client next begun.1 was.listens;
    }
      where
        begun : BegunIf log client (local r next)
        begun = subst (BegunIf log client) met (meet_begun tables world log log client was.began step)

    -- after a shared call that it made
    pub at_call : (log : List Entry) (client : Client) (step : Move) (rest : List Move) (call : Call) → meet tables world log client step ≡ shared call
        → IsAt tables world c steps log (record { client = client; steps = step ∷ rest })
        → IsAt tables world c steps (log ++ entry_at log call ∷ []) (record { client = after_call log client step call; steps = rest })
    at_call log client step rest call met was = record {
      called = record { client = after_call log client step call; steps = rest };
      follows =
          along-push log (entry_at log call) (new_run steps) (made_of log was.called) was.follows
          ∙ pass_own (made_of log was.called) (entry_at log call) refl
          ∙ ap (make tables world log c) (here ∙ step_on log client step rest (shared call) met);
      answered = λ more. refl;
      began = keep_begun log (entry_at log call) (schema_version (history world log)) step (reply world log (entry_at log call)) client was.began;
      listens = keep_listens world c log (entries_of log c) client was.listens tables step call met;
    }
      where
        here : arrive tables world log was.called.client was.called.steps ≡ arrive tables world log client (step ∷ rest)
        here = subst (λ (l : List Entry). arrive tables world l was.called.client was.called.steps ≡ arrive tables world l client (step ∷ rest)) (append-nil log) (was.answered [])

    -- at its end
    pub at_end : (log : List Entry) (client : Client) → IsAt tables world c steps log (record { client = client; steps = [] }) → PerformsAlong tables world c log steps client.replies
    at_end log client was =
        ap (option_and_then (finish tables world c)) was.follows
        ∙ ap (λ (a : Arrival). let left : Option Left = option_map (λ replies. record { log = log; replies = replies }) (replies_at a) in left)
        (subst (λ (l : List Entry). arrive tables world l was.called.client was.called.steps ≡ ended client) (append-nil log) (was.answered []))
