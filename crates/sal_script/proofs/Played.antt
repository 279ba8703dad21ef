-- What is played in an order is what its clients can leave.
use Rattle.std.proofs.Common.{◌≡◌, ℕ, ◌+◌, List, [], ◌∷◌, ◌++◌, set, Option, None, Some, Ok, refl, ap, sym, ◌∙◌, subst, inl, inr}
use Rattle.std.specs.Prelude.{option_and_then, slice_get}
use Rattle.std.specs.Option.{option_map}
use Rattle.std.proofs.lemmas.Option.{same_Some, slice_get-map}
use Rattle.sal_history.specs.declared.call.Entry.{Entry}
use Rattle.sal_history.specs.World.{Domain}
use Rattle.sal_script.specs.declared.reply.StepReply.{StepReply}
use Rattle.sal_script.specs.Moves.{Move}
use Rattle.sal_script.specs.Play.{Arrival, Made, Played, Run, PlayState, arrive, calls, end_by, ended, go, make, play_by, play_from, replies_of, state_with, start, advance, advance_of}
use Rattle.sal_script.specs.Tables.{Versions, versions_of}
use Rattle.sal_script.specs.Orders.{Follows}
use Rattle.sal_script.specs.Along.{PerformsAlong, Left, along, finish, new_run}
use Rattle.sal_script.specs.OneOrder.{PlayedCanBeLeft}
use Rattle.sal_script.proofs.Along.{along-push, entry_at, made_of, pass_other, pass_own}
use Rattle.sal_script.proofs.Left.{run_at}
use Rattle.sal_script.proofs.Listed.{get-set}
use Rattle.sal_script.proofs.Orders.{all_end, plays_follow_their_order, same_Ok}

module _ (tables : List Versions) (world : List Domain) where
  -- the client made its next entry
  abbrev Own : List Entry → ℕ → Made → Type 0
  Own log c made = (e : Entry) × (run : Run) × (e.client ≡ c) × (made_of (log ++ e ∷ []) run ≡ made)

  make_own : (log : List Entry) (c : ℕ) (a : Arrival) (made : Made) → make tables world log c a ≡ Some made → Own log c made
  make_own log c (ended client) made is = cc
  make_own log c (calls call step run) made is =
      (entry_at tables world c log call, own.0, refl, own.1)
    where
      last_run : Option Made → Run
      last_run None = run
      last_run (Some m) = m.run

      log_of : Option Made → List Entry
      log_of None = log
      log_of (Some m) = m.log

      own : (r : Run) × (made_of (log ++ entry_at tables world c log call ∷ []) r ≡ made)
      own = (made.run, λ i. made_of (ap log_of is i) made.run)

  -- each client has gone along the log
  abbrev AllAlong : List (List Move) → PlayState → Type 0
  AllAlong clients state = (c : ℕ) (steps : List Move) (run : Run) → slice_get clients c ≡ Some steps → slice_get state.runs c ≡ Some run → along tables world c state.log (new_run steps) ≡ Some (made_of state.log run)

  all_next : (clients : List (List Move)) (state : PlayState) (c : ℕ) (run next : Run) (e : Entry) → e.client ≡ c → slice_get state.runs c ≡ Some run → go tables world state.log c run ≡ Some (made_of (state.log ++ e ∷ []) next) → AllAlong clients state
      → AllAlong clients (record { log = state.log ++ e ∷ []; runs = set state.runs c next })
  all_next clients state c run next e own at went was d steps r at_d at_r =
      elim (get-set state.runs c next d r at_r) [
        | inl w ↦
            subst (λ (x : Run). along tables world d (state.log ++ e ∷ []) (new_run steps) ≡ Some (made_of (state.log ++ e ∷ []) x)) w.1
            (subst (λ (k : ℕ). along tables world k (state.log ++ e ∷ []) (new_run steps) ≡ Some (made_of (state.log ++ e ∷ []) next)) (sym w.0)
            (along-push tables world c state.log e (new_run steps) (made_of state.log run) (was c steps run (ap (slice_get clients) (sym w.0) ∙ at_d) at)
            ∙ pass_own tables world c (made_of state.log run) e own ∙ went))
        | inr w ↦
            along-push tables world d state.log e (new_run steps) (made_of state.log r) (was d steps r at_d w.1)
            ∙ pass_other tables world d (made_of state.log r) e (λ mine. w.0 (sym mine ∙ own))
      ]

  module _ (clients : List (List Move)) where
    with_made : (state next : PlayState) (c : ℕ) (run : Run) (made : Option Made) → slice_get state.runs c ≡ Some run → go tables world state.log c run ≡ made → AllAlong clients state → state_with state c made ≡ Some next → AllAlong clients next
    with_made state next c run None at went was is = cc
    with_made state next c run (Some made) at went was is =
        let own = make_own state.log c (arrive tables world state.log run.client run.steps) made went in
        subst (AllAlong clients) (same_Some (let s : PlayState = record { log = made.log; runs = set state.runs c made.run } in s) next is)
        (subst (λ (m : Made). AllAlong clients (record { log = m.log; runs = set state.runs c m.run })) own.3 (all_next clients state c run own.1 own.0 own.2 at (went ∙ ap Some (sym own.3)) was))

    turned_by : (state next : PlayState) (c : ℕ) (run : Option Run) → slice_get state.runs c ≡ run → AllAlong clients state → advance_of tables world state c run ≡ Some next → AllAlong clients next
    turned_by state next c None at was is = cc
    turned_by state next c (Some run) at was is = with_made state next c run (go tables world state.log c run) at refl was is

    -- each client reaches its end along the log
    abbrev AllFinish : Played → Type 0
    AllFinish played = (c : ℕ) (steps : List Move) (rs : List StepReply) → slice_get clients c ≡ Some steps → slice_get played.replies c ≡ Some rs → PerformsAlong tables world c played.log steps rs

    ends : (state : PlayState) (all : List (List StepReply)) → AllAlong clients state → replies_of tables world state.log state.runs ≡ Some all → AllFinish (record { log = state.log; replies = all })
    ends state all was is c steps rs at_c at_rs =
        let last = (all_end tables world state.log state.runs all is).1 c rs at_rs in
        ap (option_and_then (finish tables world c)) (was c steps last.0 at_c last.1)
        ∙ ap (option_map (λ replies. let left : Left = record { log = state.log; replies = replies } in left)) last.2

    ended_by : (index : ℕ) (state : PlayState) (all : Option (List (List StepReply))) (played : Played) → AllAlong clients state → replies_of tables world state.log state.runs ≡ all → end_by tables world index state.log all ≡ Ok played → AllFinish played
    ended_by index state None played was at is = cc
    ended_by index state (Some all) played was at is = subst AllFinish (same_Ok (let p : Played = record { log = state.log; replies = all } in p) played is) (ends state all was at)

    going_on : (index c : ℕ) (order : List ℕ) (state : PlayState) (next : Option PlayState) (played : Played) → advance tables world state c ≡ next → AllAlong clients state
        → ((s : PlayState) → AllAlong clients s → play_from tables world (index + 1) s order ≡ Ok played → AllFinish played)
        → play_by index (λ s. play_from tables world (index + 1) s order) next ≡ Ok played → AllFinish played
    going_on index c order state None played went was more is = cc
    going_on index c order state (Some next) played went was more is = more next (turned_by state next c (slice_get state.runs c) refl was went) is

    plays : (order : List ℕ) (index : ℕ) (state : PlayState) (played : Played) → AllAlong clients state → play_from tables world index state order ≡ Ok played → AllFinish played
    plays [] index state played was is = ended_by index state (replies_of tables world state.log state.runs) played was refl is
    plays (c ∷ order) index state played was is =
        going_on index c order state (advance tables world state c) played refl was (λ s new rest. plays order (index + 1) s played new rest) is

starts : (world : List Domain) (clients : List (List Move)) → AllAlong (versions_of world) world clients (start clients)
starts world clients c steps run at_c at =
    let mine = run_at clients c run at in
    let same : new_run steps ≡ run = ap new_run (same_Some steps mine.0 (sym at_c ∙ mine.1)) ∙ mine.2 in
    ap (λ (r : Run). let made : Option Made = Some (made_of [] r) in made) same

pub what_is_played_can_be_left : PlayedCanBeLeft
what_is_played_can_be_left world clients order played is =
    let follows : Follows world clients order played = plays_follow_their_order world clients order played is in (
      follows.ordered,
      record {
        known = λ i e at. follows.known i e.client (ap (λ (cs : List ℕ). slice_get cs i) (sym follows.ordered) ∙ slice_get-map (λ (x : Entry). x.client) played.log i ∙ ap (option_map (λ (x : Entry). x.client)) at);
        all = follows.all;
        each = plays (versions_of world) world clients order 0 (start clients) played (starts world clients) is;
      },
    )
