-- What is played follows its order.
use Rattle.std.proofs.Common.{◌≡◌, ℕ, ◌+◌, ◌<◌, ◌≤◌, List, [], ◌∷◌, ◌++◌, length, map, set, take, Option, None, Some, Result, Ok, Err, is_ok, refl, ap, sym, ◌∙◌, subst, arith, append_assoc, append-nil, le_of_eq, suc, zero, true≢false, inl, inr, ◌⊎◌}
use Rattle.std.specs.Prelude.{slice_get}
use Rattle.std.proofs.Math.Seq.{take-append_seam}
use Rattle.std.proofs.lemmas.List.{length-map, length-set}
use Rattle.std.proofs.lemmas.Option.{same_Some, slice_get_within}
use Rattle.sal_history.specs.declared.call.Entry.{Entry}
use Rattle.sal_history.specs.World.{Domain}
use Rattle.sal_history.specs.History.{entries_of}
use Rattle.sal_script.specs.declared.reply.StepReply.{StepReply}
use Rattle.sal_script.specs.Moves.{Move}
use Rattle.sal_script.specs.Play.{Arrival, IsLegal, Made, Played, Run, PlayState, arrive, calls, cons_replies, end_by, ended, go, new_client, play, play_by, play_from, replies_at, replies_of, state_with, start, advance, advance_of}
use Rattle.sal_script.specs.Tables.{Versions, versions_of}
use Rattle.sal_script.specs.Orders.{Exchange, Follows, IsNumbered, OrdersEndOrFail, PlaysFollow, exchanges_in, exchanges_of}
use Rattle.sal_script.proofs.Arriving.{IsOnWay, Makes, MakesIf, Reaches, exchanges-other, makes, reaches}
use Rattle.sal_script.proofs.Listed.{get-push, get-set, get_some, take_left}

abbrev ok_or_this : Played → Result Played ℕ → Played
ok_or_this p (Ok q) = q
ok_or_this p (Err i) = p

pub same_Ok : (p q : Played) → (let r : Result Played ℕ = Ok p in r) ≡ Ok q → p ≡ q
same_Ok p q e = ap (ok_or_this p) e

abbrev err_or_this : ℕ → Result Played ℕ → ℕ
err_or_this i (Ok q) = i
err_or_this i (Err j) = j

same_Err : (i j : ℕ) → (let r : Result Played ℕ = Err i in r) ≡ Err j → i ≡ j
same_Err i j e = ap (err_or_this i) e

-- ---- one number of the order

-- the places of the clients after this part of an order
record Stands (world : List Domain) (clients : List (List Move)) (order : List ℕ) (state : PlayState) : Type 0 where
  pub ordered : map (λ (e : Entry). e.client) state.log ≡ order
  pub known : (i c : ℕ) → slice_get order i ≡ Some c → c < length clients
  pub numbered : IsNumbered state.log
  pub runs : length state.runs ≡ length clients
  pub each : (c : ℕ) (steps : List Move) (run : Run) → slice_get clients c ≡ Some steps → slice_get state.runs c ≡ Some run → IsOnWay world state.log c steps run

clients-push : (log : List Entry) (e : Entry) → map (λ (x : Entry). x.client) (log ++ e ∷ []) ≡ map (λ (x : Entry). x.client) log ++ e.client ∷ []
clients-push [] e = refl
clients-push (x ∷ log) e = ap (λ (cs : List ℕ). x.client ∷ cs) (clients-push log e)

numbered-push : (log : List Entry) (e : Entry) → IsNumbered log → e.number ≡ entries_of log e.client → IsNumbered (log ++ e ∷ [])
numbered-push log e was number i x at =
    elim (get-push log e i x at) [
      | inl old ↦ was i x old ∙ ap (λ (xs : List Entry). entries_of xs x.client) (sym (take_left log (e ∷ []) i (slice_get_within log i x old)))
      | inr w ↦
          subst (λ (y : Entry). y.number ≡ entries_of (take i (log ++ e ∷ [])) y.client) w.1
          (number ∙ ap (λ (xs : List Entry). entries_of xs e.client) (sym (ap (λ (k : ℕ). take k (log ++ e ∷ [])) w.0 ∙ take-append_seam log (e ∷ []))))
    ]

known-push : (n : ℕ) (order : List ℕ) (c : ℕ) → ((i d : ℕ) → slice_get order i ≡ Some d → d < n) → c < n → (i d : ℕ) → slice_get (order ++ c ∷ []) i ≡ Some d → d < n
known-push n order c was h i d at = elim (get-push order c i d at) [ inl old ↦ was i d old | inr w ↦ subst (λ k. k < n) w.1 h ]

-- a client whose log has one more entry of another
others_on_way : (world : List Domain) (log : List Entry) (e : Entry) (c : ℕ) (steps : List Move) (run : Run) → (e.client ≡ c → ⊥) → IsOnWay world log c steps run → IsOnWay world (log ++ e ∷ []) c steps run
others_on_way world log e c steps run other was = record { done = was.done; parts = was.parts; long = was.long; so_far = was.so_far ∙ sym (exchanges-other world log e c other) }

module _ (world : List Domain) (clients : List (List Move)) (order : List ℕ) (state : PlayState) (was : Stands world clients order state) (c : ℕ) (steps : List Move) (at_c : slice_get clients c ≡ Some steps) where
  each-set : (made : Made) → Makes world state.log c steps made → (d : ℕ) (ms : List Move) (run : Run) → slice_get clients d ≡ Some ms → slice_get (set state.runs c made.run) d ≡ Some run → IsOnWay world made.log d ms run
  each-set made m d ms run at_d at_run =
      elim (get-set state.runs c made.run d run at_run) [
        | inl w ↦
            let same : steps ≡ ms = same_Some steps ms (sym at_c ∙ ap (slice_get clients) (sym w.0) ∙ at_d) in
            subst (λ (x : Run). IsOnWay world made.log d ms x) w.1 (subst (λ (k : ℕ). IsOnWay world made.log k ms made.run) (sym w.0) (subst (λ (xs : List Move). IsOnWay world made.log c xs made.run) same m.run))
        | inr w ↦
            subst (λ (log : List Entry). IsOnWay world log d ms run) (sym m.grown)
            (others_on_way world state.log m.entry d ms run (λ same. w.0 (sym same ∙ m.by)) (was.each d ms run at_d w.1))
      ]

  stands_with : (made : Option Made) (next : PlayState) → MakesIf world state.log c steps made → state_with state c made ≡ Some next → Stands world clients (order ++ c ∷ []) next
  stands_with None next m e = cc
  stands_with (Some made) next m e =
      subst (Stands world clients (order ++ c ∷ [])) (same_Some (let s : PlayState = record { log = made.log; runs = set state.runs c made.run } in s) next e)
      record {
        ordered = ap (map (λ (x : Entry). x.client)) m.grown ∙ clients-push state.log m.entry ∙ (λ k. was.ordered k ++ m.by k ∷ []);
        known = known-push (length clients) order c was.known (slice_get_within clients c steps at_c);
        numbered = subst IsNumbered (sym m.grown) (numbered-push state.log m.entry was.numbered (m.number ∙ ap (entries_of state.log) (sym m.by)));
        runs = length-set state.runs c made.run ∙ was.runs;
        each = each-set made m;
      }

module _ (tables : List Versions) (world : List Domain) (clients : List (List Move)) where
  -- how a client continues
  going : (log : List Entry) (c : ℕ) (steps : List Move) (run : Run) → IsOnWay world log c steps run → Reaches steps (exchanges_in world log c) (arrive tables world log run.client run.steps)
  going log c steps run way =
      subst (λ (ms : List Move). Reaches ms (exchanges_in world log c) (arrive tables world log run.client run.steps)) (sym way.parts)
      (reaches tables world log run.steps way.done run.client (exchanges_in world log c) way.long way.so_far)

  turned_by : (order : List ℕ) (state next : PlayState) (c : ℕ) (run : Option Run) → Stands world clients order state → slice_get state.runs c ≡ run → advance_of tables world state c run ≡ Some next → Stands world clients (order ++ c ∷ []) next
  turned_by order state next c None was at e = cc
  turned_by order state next c (Some run) was at e =
      let within : c < length clients = omega (arith, was.runs, slice_get_within state.runs c run at) in
      let program : (steps : List Move) × (slice_get clients c ≡ Some steps) = get_some clients c within in
      stands_with world clients order state was c program.0 program.1 (go tables world state.log c run) next
      (makes tables world state.log c program.0 (arrive tables world state.log run.client run.steps) (going state.log c program.0 run (was.each c program.0 run program.1 at))) e

  turned : (order : List ℕ) (state next : PlayState) (c : ℕ) → Stands world clients order state → advance tables world state c ≡ Some next → Stands world clients (order ++ c ∷ []) next
  turned order state next c was e = turned_by order state next c (slice_get state.runs c) was refl e

-- ---- the end

cons_parts : (o : Option (List StepReply)) (rest : Option (List (List StepReply))) (all : List (List StepReply)) → cons_replies o rest ≡ Some all
    → (rs : List StepReply) × (more : List (List StepReply)) × (o ≡ Some rs) × (rest ≡ Some more) × (rs ∷ more ≡ all)
cons_parts None rest all e = cc
cons_parts (Some rs) None all e = cc
cons_parts (Some rs) (Some more) all e = (rs, more, refl, refl, same_Some (rs ∷ more) all e)

ended_with : (steps : List Move) (es : List Exchange) (a : Arrival) (rs : List StepReply) → Reaches steps es a → replies_at a ≡ Some rs → (length rs ≡ length steps) × (exchanges_of steps rs ≡ es)
ended_with steps es (ended client) rs reached e = subst (λ (xs : List StepReply). (length xs ≡ length steps) × (exchanges_of steps xs ≡ es)) (same_Some client.replies rs e) reached
ended_with steps es (calls call step run) rs reached e = cc

module _ (tables : List Versions) (world : List Domain) (log : List Entry) where
  -- the client's way ended with these replies
  abbrev pub EndsWith : List Run → ℕ → List StepReply → Type 0
  EndsWith runs c rs = (run : Run) × (slice_get runs c ≡ Some run) × (replies_at (arrive tables world log run.client run.steps) ≡ Some rs)

  first_or_later : (run : Run) (runs : List Run) (first : List StepReply) (more : List (List StepReply)) → replies_at (arrive tables world log run.client run.steps) ≡ Some first → ((c : ℕ) (rs : List StepReply) → slice_get more c ≡ Some rs → EndsWith runs c rs)
      → (c : ℕ) (rs : List StepReply) → slice_get (first ∷ more) c ≡ Some rs → EndsWith (run ∷ runs) c rs
  first_or_later run runs first more is rest zero rs at = (run, refl, is ∙ at)
  first_or_later run runs first more is rest (suc c) rs at = rest c rs at

  pub all_end : (runs : List Run) (all : List (List StepReply)) → replies_of tables world log runs ≡ Some all → (length all ≡ length runs) × ((c : ℕ) (rs : List StepReply) → slice_get all c ≡ Some rs → EndsWith runs c rs)
  all_end [] [] e = (refl, λ c rs at. absurd (nothing c rs at))
    where
      nothing : (c : ℕ) (rs : List StepReply) → slice_get (let xs : List (List StepReply) = [] in xs) c ≡ Some rs → ⊥
      nothing c rs at = cc
  all_end [] (first ∷ more) e = absurd (omega (arith, ap length (same_Some (let xs : List (List StepReply) = [] in xs) (first ∷ more) e)))
  all_end (run ∷ runs) all e =
      let p = cons_parts (replies_at (arrive tables world log run.client run.steps)) (replies_of tables world log runs) all e in
      let rest = all_end runs p.1 p.3 in
      subst (λ (xs : List (List StepReply)). (length xs ≡ length (run ∷ runs)) × ((c : ℕ) (rs : List StepReply) → slice_get xs c ≡ Some rs → EndsWith (run ∷ runs) c rs)) p.4
      (ap suc rest.0, first_or_later run runs p.0 p.1 p.2 rest.1)

module _ (tables : List Versions) (world : List Domain) (clients : List (List Move)) where
  finishes : (order : List ℕ) (state : PlayState) (all : List (List StepReply)) → Stands world clients order state → replies_of tables world state.log state.runs ≡ Some all → Follows world clients order (record { log = state.log; replies = all })
  finishes order state all was e =
      let ends = all_end tables world state.log state.runs all e in
      record {
        ordered = was.ordered;
        known = was.known;
        numbered = was.numbered;
        all = ends.0 ∙ was.runs;
        each = λ c steps rs at_c at_rs.
            let last = ends.1 c rs at_rs in
            let run : Run = last.0 in
            let done = ended_with steps (exchanges_in world state.log c) (arrive tables world state.log run.client run.steps) rs (going tables world clients state.log c steps run (was.each c steps run at_c last.1)) last.2 in
            record { answered = done.0; called = done.1 };
      }

  ended_by : (index : ℕ) (order : List ℕ) (state : PlayState) (all : Option (List (List StepReply))) (played : Played) → Stands world clients order state → replies_of tables world state.log state.runs ≡ all → end_by tables world index state.log all ≡ Ok played → Follows world clients order played
  ended_by index order state None played was is e = cc
  ended_by index order state (Some all) played was is e =
      subst (Follows world clients order) (same_Ok (let p : Played = record { log = state.log; replies = all } in p) played e) (finishes order state all was is)

  going_on : (index c : ℕ) (done order : List ℕ) (state : PlayState) (next : Option PlayState) (played : Played) → Stands world clients done state → advance tables world state c ≡ next
      → ((s : PlayState) → Stands world clients (done ++ c ∷ []) s → play_from tables world (index + 1) s order ≡ Ok played → Follows world clients (done ++ c ∷ order) played)
      → play_by index (λ s. play_from tables world (index + 1) s order) next ≡ Ok played → Follows world clients (done ++ c ∷ order) played
  going_on index c done order state None played was is more e = cc
  going_on index c done order state (Some next) played was is more e = more next (turned tables world clients done state next c was is) e

  plays : (order : List ℕ) (index : ℕ) (done : List ℕ) (state : PlayState) (played : Played) → Stands world clients done state → play_from tables world index state order ≡ Ok played → Follows world clients (done ++ order) played
  plays [] index done state played was e =
      subst (λ (cs : List ℕ). Follows world clients cs played) (sym (append-nil done)) (ended_by index done state (replies_of tables world state.log state.runs) played was refl e)
  plays (c ∷ order) index done state played was e =
      going_on index c done order state (advance tables world state c) played was refl
      (λ s new rest. subst (λ (cs : List ℕ). Follows world clients cs played) (append_assoc done (c ∷ []) order) (plays order (index + 1) (done ++ c ∷ []) s played new rest)) e

-- ---- the beginning

start_at : (clients : List (List Move)) (c : ℕ) (steps : List Move) (run : Run) → slice_get clients c ≡ Some steps → slice_get (start clients).runs c ≡ Some run → (let r : Run = record { client = new_client; steps = steps } in r) ≡ run
start_at [] c steps run at_c at_run = cc
start_at (ms ∷ clients) zero steps run at_c at_run =
    ap (λ (xs : List Move). let r : Run = record { client = new_client; steps = xs } in r) (sym (same_Some ms steps at_c)) ∙ same_Some (let r : Run = record { client = new_client; steps = ms } in r) run at_run
start_at (ms ∷ clients) (suc c) steps run at_c at_run = start_at clients c steps run at_c at_run

starts : (world : List Domain) (clients : List (List Move)) → Stands world clients [] (start clients)
starts world clients = record {
  ordered = refl;
  known = λ i c at. absurd (nothing i c at);
  numbered = λ i e at. absurd (no_entry i e at);
  runs = length-map clients (λ (steps : List Move). let r : Run = record { client = new_client; steps = steps } in r);
  each = λ c steps run at_c at_run. subst (IsOnWay world [] c steps) (start_at clients c steps run at_c at_run) (record { done = []; parts = refl; long = refl; so_far = refl });
}
  where
    nothing : (i c : ℕ) → slice_get (let cs : List ℕ = [] in cs) i ≡ Some c → ⊥
    nothing i c at = cc

    no_entry : (i : ℕ) (e : Entry) → slice_get (let es : List Entry = [] in es) i ≡ Some e → ⊥
    no_entry i e at = cc

pub plays_follow_their_order : PlaysFollow
plays_follow_their_order world clients order played e = plays (versions_of world) world clients order 0 [] (start clients) played (starts world clients) e

-- ---- where an order fails

module _ (tables : List Versions) (world : List Domain) where
  fails_at_end : (index : ℕ) (log : List Entry) (all : Option (List (List StepReply))) (i : ℕ) → end_by tables world index log all ≡ Err i → i ≤ index
  fails_at_end index log None i e = le_of_eq (sym (same_Err index i e))
  fails_at_end index log (Some all) i e = cc

  fails_by : (index : ℕ) (order : List ℕ) (next : Option PlayState) (i : ℕ) → ((s : PlayState) → play_from tables world (index + 1) s order ≡ Err i → i ≤ index + 1 + length order)
      → play_by index (λ s. play_from tables world (index + 1) s order) next ≡ Err i → i ≤ index + suc (length order)
  fails_by index order None i more e = let at = same_Err index i e in omega (arith, at)
  fails_by index order (Some s) i more e = let later = more s e in omega (arith, later)

  fails_within : (order : List ℕ) (index : ℕ) (state : PlayState) (i : ℕ) → play_from tables world index state order ≡ Err i → i ≤ index + length order
  fails_within [] index state i e = let at = fails_at_end index state.log (replies_of tables world state.log state.runs) i e in omega (arith, at)
  fails_within (c ∷ order) index state i e = fails_by index order (advance tables world state c) i (λ s. fails_within order (index + 1) s i) e

module _ (world : List Domain) (clients : List (List Move)) (order : List ℕ) where
  end_or_fail : (r : Result Played ℕ) → play world clients order ≡ r → ((i : ℕ) → r ≡ Err i → i ≤ length order)
      → (IsLegal world clients order × ((played : Played) × (play world clients order ≡ Ok played))) ⊎ ((IsLegal world clients order → ⊥) × ((index : ℕ) × (play world clients order ≡ Err index) × (index ≤ length order)))
  end_or_fail (Ok played) is within = inl (ap is_ok is, (played, is))
  end_or_fail (Err index) is within = inr (λ legal. true≢false (sym legal ∙ ap is_ok is), (index, is, within index refl))

pub orders_end_or_fail : OrdersEndOrFail
orders_end_or_fail world clients order =
    end_or_fail world clients order (play world clients order) refl (λ i e. let h = fails_within (versions_of world) world order 0 (start clients) i e in omega (arith, h))
