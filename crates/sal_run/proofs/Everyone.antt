-- The seats of all clients, and what all of them leave.
use Rattle.std.proofs.Common.{◌≡◌, ◌⊎◌, ⊎_elim, inl, inr, ℕ, zero, suc, ◌+◌, ◌<◌, ◌≤◌, List, [], ◌∷◌, ◌++◌, Bool, true, false, length, map, get_or, Option, Some, IsTrue, refl, ap, sym, ◌∙◌, subst, arith, length-append, true≢false}
use Rattle.std.specs.Prelude.{nat_eq, nat_le, slice_get, unwrap_or, Result, Ok, Err, cond, ◌||◌, ◌&&◌, OnOk}
use Rattle.std.specs.List.{list_all}
use Rattle.std.specs.Option.{option_map}
use Rattle.std.proofs.lemmas.Bool.{and_parts, eq-eqb, eqb-true, leb-true}
use Rattle.std.proofs.lemmas.List.Sums.{length-filter}
use Rattle.std.proofs.lemmas.Option.{get_or_from_slice_get, same_Some, slice_get-map, slice_get_within}
use mathlib.Core.List.{IsPrefix}
use Rattle.sal_history.specs.declared.call.Entry.{Entry}
use Rattle.sal_history.specs.History.{entries_of}
use Rattle.sal_history.specs.World.{Domain}
use Rattle.sal_turn.specs.Entries.{entries_by}
use Rattle.sal_turn.specs.Lists.{In}
use Rattle.sal_turn.specs.Seats.{Place, TableId}
use Rattle.sal_turn.specs.Views.{AnswersFor, both, newcomer, opener}
use Rattle.sal_turn.proofs.Lists.{in_either, prefix_trans}
use Rattle.sal_broker.specs.Seats.{SeatView, client_of as maker_of, inside, known}
use Rattle.sal_hub.specs.HubHistory.{HubHistory}
use Rattle.sal_script.specs.Along.{AreLogOf, PerformsAlong, IsAt, new_run}
use Rattle.sal_script.specs.JsonMoves.{have_json_moves}
use Rattle.sal_script.specs.Limits.{within_limits}
use Rattle.sal_script.specs.Moves.{Move, clients_of, move_of, moves_of}
use Rattle.sal_script.specs.Play.{Client, Run}
use Rattle.sal_script.specs.Tables.{Versions, versions_of}
use Rattle.sal_script.specs.declared.reply.StepReply.{StepReply}
use Rattle.sal_script.specs.declared.script.ScriptStep.{ScriptStep}
use Rattle.sal_script.proofs.Along.{at_end, at_found_own, at_start}
use Rattle.sal_script.proofs.Few.{log_is_short}
use Rattle.sal_script.proofs.Listed.{get-push, get_left, get_some}
use Rattle.sal_client.specs.declared.wish.RunFault.{RunFault}
use Rattle.sal_client.specs.declared.wish.RunFault.TheVariants.{HistoryFull, NoMemory}
use Rattle.sal_client.specs.Clients.{client_of}
use Rattle.sal_client.specs.Runs.{moves_from, replies_in, run_of}
use Rattle.sal_client.proofs.Values.{program_at}
use Rattle.sal_run.specs.declared.clients.SeatedRun.{SeatedRun}
use Rattle.sal_run.specs.Joined.{AreSeated, Collects, IsSeated, Joins, named, upto, with_replies}
use Rattle.sal_run.specs.Ran.{AreRan, IsOpening}
use Rattle.sal_run.specs.Stands.{HasEnded, Stands}
use Rattle.sal_run.specs.Worked.{IsNew, Worked}

-- ---- lists

map_long : {X Y : Type 0} (f : X → Y) (xs : List X) → length (map f xs) ≡ length xs
map_long f [] = refl
map_long f (x ∷ xs) = ap suc (map_long f xs)

map_push : {X Y : Type 0} (f : X → Y) (xs : List X) (x : X) → map f (xs ++ x ∷ []) ≡ map f xs ++ f x ∷ []
map_push f [] x = refl
map_push f (y ∷ xs) x = ap (λ (ys : List _). f y ∷ ys) (map_push f xs x)

-- the item at an index
pub at_index : {X : Type 0} (xs : List X) (i : ℕ) (x : X) → i < length xs → x ≡ get_or xs i x → slice_get xs i ≡ Some x
at_index xs i x within is = let own = get_some xs i within in own.1 ∙ ap Some (sym (is ∙ get_or_from_slice_get xs i own.0 x own.1))

-- ---- programs

short_programs : (ps : List (List ScriptStep)) (i : ℕ) (p : List ScriptStep) → list_all (λ (q : List ScriptStep). nat_le (length q) 60000) ps ≡ true → slice_get ps i ≡ Some p → length p ≤ 60000
short_programs [] i p all at = cc
short_programs (q ∷ ps) zero p all at =
    let same = ap length (same_Some q p at) in
    let small = leb-true (length q) 60000 (and_parts (nat_le (length q) 60000) (list_all (λ (r : List ScriptStep). nat_le (length r) 60000) ps) all).0 in
    omega (arith, same, small)
short_programs (q ∷ ps) (suc i) p all at = short_programs ps i p (and_parts (nat_le (length q) 60000) (list_all (λ (r : List ScriptStep). nat_le (length r) 60000) ps) all).1 at

few_clients : (ps : List (List ScriptStep)) → within_limits ps ≡ true → length ps ≤ 16
few_clients ps within = leb-true (length ps) 16 (and_parts (nat_le (length ps) 16) (list_all (λ (r : List ScriptStep). nat_le (length r) 60000) ps) within).0

pub few_programs : (ps : List (List ScriptStep)) → within_limits ps ≡ true → length ps < 65535
few_programs ps within = let few = few_clients ps within in omega (arith, few)

-- the limits of programs are those of their moves
moves_short : (ps : List (List ScriptStep)) → list_all (λ (q : List ScriptStep). nat_le (length q) 60000) ps ≡ true → list_all (λ (ms : List Move). nat_le (length ms) 60000) (clients_of ps) ≡ true
moves_short [] all = refl
moves_short (q ∷ ps) all =
    let parts = and_parts (nat_le (length q) 60000) (list_all (λ (r : List ScriptStep). nat_le (length r) 60000) ps) all in
    let rest = moves_short ps parts.1 in
    let first : nat_le (length (moves_of q)) 60000 ≡ true = ap (λ (n : ℕ). nat_le n 60000) (map_long move_of q) ∙ parts.0 in
    (λ k. first k && rest k)

-- ---- one client, before its first step

pub new_stands : (tables : List Versions) (lock : TableId) (programs : List (List ScriptStep)) (s : SeatedRun) (steps : List ScriptStep) → within_limits programs ≡ true → have_json_moves (clients_of programs) ≡ true → IsNew tables lock programs s
    → slice_get programs s.run.client.number ≡ Some steps → Stands tables steps (inside s.seat).view s.run (run_of steps s.run)
new_stands tables lock programs s steps limits json is at =
    let v : SeatView = (inside s.seat).view in
    let start : IsAt tables (known v).world v.number (moves_of steps) v.seen (new_run (moves_of steps)) =
    at_found_own tables (known v).world v.number (moves_of steps) [] v.seen [] (new_run (moves_of steps)) (v.seen, refl) refl is.none (at_start tables (known v).world v.number (moves_of steps)) in
    record {
      number = is.number;
      reads = is.reads;
      whole = is.none ∙ sym is.own;
      program = record {
        within = let none = is.at in omega (arith, none);
        short = short_programs programs s.run.client.number steps (and_parts (nat_le (length programs) 16) (list_all (λ (r : List ScriptStep). nat_le (length r) 60000) programs) limits).1 at;
        json = program_at programs s.run.client.number steps json (slice_get_within programs s.run.client.number steps at) (sym (get_or_from_slice_get programs s.run.client.number steps steps at));
      };
      sound = is.sound (known v);
      at = subst (λ (n : ℕ). IsAt tables (known v).world v.number (moves_of steps) v.seen (record { client = client_of s.run.client; steps = moves_from n steps })) (sym is.at)
          (subst (λ (c : Client). IsAt tables (known v).world v.number (moves_of steps) v.seen (record { client = c; steps = moves_of steps })) (sym is.client) start);
    }

-- ---- all seats

pub in_upto : (n k : ℕ) → In k (upto n) → k < n
in_upto zero k i = absurd i
in_upto (suc n) k i = ⊎_elim (λ (h : In k (upto n)). let l = in_upto n k h in omega (arith, l)) (λ (h : In k (n ∷ [])). ⊎_elim (λ (e : n ≡ k). omega (arith, e)) (λ (h : ⊥). absurd h) h) (in_either k (upto n) (n ∷ []) i)

pub upto_more : (n : ℕ) → upto n ++ n ∷ [] ≡ upto (n + 1)
upto_more n = let e : suc n ≡ n + 1 = omega arith in ap upto e

pub not_given : (n k : ℕ) → k < 65535 → n ≤ k → ¬ In k (65535 ∷ upto n)
not_given n k small high i = ⊎_elim (λ (e : 65535 ≡ k). absurd (omega (arith, e, small))) (λ (h : In k (upto n)). let l = in_upto n k h in absurd (omega (arith, l, high))) i

pub seated_more : (lock : TableId) (v w : SeatView) (n : ℕ) (runs : List SeatedRun) (s : SeatedRun) → AreSeated lock v n runs → IsSeated lock w n s → newcomer n w ≡ newcomer n v → AreSeated lock v (n + 1) (runs ++ s ∷ [])
seated_more lock v w n runs s are is same = record {
  long = let long = are.long in length-append runs (s ∷ []) ∙ omega (arith, long);
  each = λ i t at. ⊎_elim
      (λ (h : slice_get runs i ≡ Some t). are.each i t h)
      (λ (h : (i ≡ length runs) × (s ≡ t)).
      let number : n ≡ i = sym (h.0 ∙ are.long) in
      subst (λ (k : ℕ). IsSeated lock v k t) number (subst (λ (x : SeatedRun). IsSeated lock v n x) h.1
      (record { there = is.there; lock = is.lock; view = is.view ∙ same; number = is.number; at = is.at; client = is.client; sound = is.sound })))
      (get-push runs s i t at);
}

pub seated_new : (tables : List Versions) (lock : TableId) (programs : List (List ScriptStep)) (v : SeatView) (i : ℕ) (s : SeatedRun) → tables ≡ versions_of (known v).world → v.seen ≡ [] → i < length programs → IsSeated lock v i s → IsNew tables lock programs s
seated_new tables lock programs v i s reads none within is = record {
  there = is.there;
  lock = is.lock;
  number = is.number ∙ ap (λ (w : SeatView). w.number) (sym is.view);
  has = let number = is.number in omega (arith, number, within);
  at = is.at;
  client = is.client;
  sound = is.sound;
  reads = reads ∙ ap (λ (w : SeatView). versions_of (known w).world) (sym is.view);
  own = ap (λ (w : SeatView). w.own) is.view;
  none = ap (λ (w : SeatView). entries_by maker_of w.number w.seen) is.view ∙ ap (λ (l : List Entry). entries_by maker_of i l) none;
}

-- the clients on their threads, by the index of their seats
pub worked_at : (tables : List Versions) (lock : TableId) (programs : List (List ScriptStep)) (v : SeatView) (n : ℕ) (runs : List SeatedRun) (fs : List SeatedRun) → AreSeated lock v n runs → length fs ≡ length runs
    → ((i : ℕ) (r : SeatedRun) → i < length runs → Worked tables lock programs (inside (get_or runs i r).seat) (get_or fs i r))
    → (i : ℕ) (f : SeatedRun) → slice_get fs i ≡ Some f → Worked tables lock programs (record { lock = lock; view = newcomer i v }) f
worked_at tables lock programs v n runs fs are long each i f at =
    let within : i < length runs = let l = slice_get_within fs i f at in omega (arith, l, long) in
    let own = get_some runs i within in
    let is = are.each i own.0 own.1 in
    let place : (inside own.0.seat) ≡ record { lock = lock; view = newcomer i v } = (λ k. record { lock = is.lock k; view = is.view k }) in
    subst (λ (p : Place Entry (List Domain)). Worked tables lock programs p f) place
    (subst (λ (g : SeatedRun). Worked tables lock programs (inside own.0.seat) g) (get_or_from_slice_get fs i f f at)
    (subst (λ (r : SeatedRun). Worked tables lock programs (inside r.seat) (get_or fs i f)) (get_or_from_slice_get runs i own.0 f own.1) (each i f within)))

-- ---- all taken in

pub joins_none : (lock : TableId) (p : Place Entry (List Domain)) → p.lock ≡ lock → p.view.joined ≡ [] → Joins lock p.view [] p
joins_none lock p is none = record { lock = is; number = refl; ground = refl; own = refl; rights = λ h. (h, refl); joined = none; seen = λ i f at. absurd (no_element i f at) }
  where
    no_element : (i : ℕ) (f : SeatedRun) → (let fs : List SeatedRun = [] in slice_get fs i) ≡ Some f → ⊥
    no_element i f at = cc

pub joins_more : (lock : TableId) (v : SeatView) (fs : List SeatedRun) (f : SeatedRun) (p q : Place Entry (List Domain)) → (inside f.seat).view.joined ≡ [] → q.lock ≡ lock → q.view ≡ both p.view (inside f.seat).view → IsPrefix p.view.seen q.view.seen → IsPrefix (inside f.seat).view.seen q.view.seen
    → Joins lock v fs p → Joins lock v (fs ++ f ∷ []) q
joins_more lock v fs f p q alone is view first second was = record {
  lock = is;
  number = ap (λ (w : SeatView). w.number) view ∙ was.number;
  ground = ap (λ (w : SeatView). w.ground) view ∙ was.ground;
  own = ap (λ (w : SeatView). w.own) view ∙ was.own;
  rights = λ splits. let old = was.rights splits in (
    ap (λ (w : SeatView). w.splits) view ∙ ap (λ (b : Bool). b || (inside f.seat).view.splits) old.0,
    ap (λ (w : SeatView). w.given) view ∙ ap (λ (b : Bool). let given : List ℕ = cond b p.view.given (inside f.seat).view.given in given) old.0 ∙ old.1,
  );
  joined =
      ap (λ (w : SeatView). w.joined) view
      ∙ (λ k. was.joined k ++ (((inside f.seat).view.number, (inside f.seat).view.own) ∷ alone k))
      ∙ sym (map_push named fs f);
  seen = λ i g at. ⊎_elim
      (λ (h : slice_get fs i ≡ Some g). prefix_trans (inside g.seat).view.seen p.view.seen q.view.seen (was.seen i g h) first)
      (λ (h : (i ≡ length fs) × (f ≡ g)). subst (λ (x : SeatedRun). IsPrefix (inside x.seat).view.seen q.view.seen) h.1 second)
      (get-push fs f i g at);
}

pub collects_none : Collects [] (Ok [])
collects_none = record {
  all = λ list is. sym (same_list list is);
  ended = λ list is i f at. absurd (no_element i f at);
  full = λ is. absurd (no_fault is);
}
  where
    same_list : (list : List (List StepReply)) → (let none : Result (List (List StepReply)) RunFault = Ok [] in none) ≡ Ok list → [] ≡ list
    same_list list is = cc

    no_element : (i : ℕ) (f : SeatedRun) → (let fs : List SeatedRun = [] in slice_get fs i) ≡ Some f → ⊥
    no_element i f at = cc

    no_fault : (let none : Result (List (List StepReply)) RunFault = Ok [] in none) ≡ Err HistoryFull → ⊥
    no_fault is = cc

module _ (fs : List SeatedRun) (f : SeatedRun) (replies result : Result (List (List StepReply)) RunFault) where
  with_ok : (r : Result (List (List StepReply)) RunFault) (end : Result (Unit {0}) RunFault) (rs : List StepReply) (list : List (List StepReply)) → with_replies r end rs ≡ Ok list
      → (before : List (List StepReply)) × (r ≡ Ok before) × (end ≡ Ok tt) × (before ++ rs ∷ [] ≡ list)
  with_ok (Ok before) (Ok done) rs list is = (before, refl, refl, ap (λ (x : Result (List (List StepReply)) RunFault). kept x) is)
    where
      kept : Result (List (List StepReply)) RunFault → List (List StepReply)
      kept (Ok l) = l
      kept (Err e) = []
  with_ok (Ok before) (Err fault) rs list is = cc
  with_ok (Err fault) end rs list is = cc

  with_full : (r : Result (List (List StepReply)) RunFault) (end : Result (Unit {0}) RunFault) (rs : List StepReply) → with_replies r end rs ≡ Err HistoryFull → (r ≡ Err HistoryFull) ⊎ (end ≡ Err HistoryFull)
  with_full (Ok before) (Ok done) rs is = cc
  with_full (Ok before) (Err fault) rs is = inr (ap (λ (x : Result (List (List StepReply)) RunFault). ended x) is)
    where
      ended : Result (List (List StepReply)) RunFault → Result (Unit {0}) RunFault
      ended (Ok l) = Ok tt
      ended (Err e) = Err e
  with_full (Err fault) end rs is = inl is

  pub collects_more : (result ≡ with_replies replies f.end (replies_in f.run)) ⊎ (result ≡ Err NoMemory) → Collects fs replies → Collects (fs ++ f ∷ []) result
  collects_more made was = record {
    all = λ list is. let o = made_ok list is in
        sym o.3 ∙ (λ k. was.all o.0 o.1 k ++ replies_in f.run ∷ []) ∙ sym (map_push (λ (g : SeatedRun). replies_in g.run) fs f);
    ended = λ list is i g at. let o = made_ok list is in ⊎_elim
        (λ (h : slice_get fs i ≡ Some g). was.ended o.0 o.1 i g h)
        (λ (h : (i ≡ length fs) × (f ≡ g)). ap (λ (x : SeatedRun). x.end) (sym h.1) ∙ o.2)
        (get-push fs f i g at);
    full = λ is. ⊎_elim
        (λ (h : replies ≡ Err HistoryFull). let o = was.full h in (o.0, o.1, get_left fs (f ∷ []) o.0 (slice_get_within fs o.0 o.1 o.2) ∙ o.2, o.3))
        (λ (h : f.end ≡ Err HistoryFull). (length fs, f, last fs f, h))
        (made_full is);
  }
    where
      made_ok : (list : List (List StepReply)) → result ≡ Ok list → (before : List (List StepReply)) × (replies ≡ Ok before) × (f.end ≡ Ok tt) × (before ++ replies_in f.run ∷ [] ≡ list)
      made_ok list is = ⊎_elim
          (λ (h : result ≡ with_replies replies f.end (replies_in f.run)). with_ok replies f.end (replies_in f.run) list (sym h ∙ is))
          (λ (h : result ≡ Err NoMemory). absurd (no_list (sym h ∙ is)))
          made
        where
          no_list : (let r : Result (List (List StepReply)) RunFault = Err NoMemory in r) ≡ Ok list → ⊥
          no_list e = cc

      made_full : result ≡ Err HistoryFull → (replies ≡ Err HistoryFull) ⊎ (f.end ≡ Err HistoryFull)
      made_full is = ⊎_elim
          (λ (h : result ≡ with_replies replies f.end (replies_in f.run)). with_full replies f.end (replies_in f.run) (sym h ∙ is))
          (λ (h : result ≡ Err NoMemory). absurd (no_full (sym h ∙ is)))
          made
        where
          no_full : (let r : Result (List (List StepReply)) RunFault = Err NoMemory in r) ≡ Err HistoryFull → ⊥
          no_full e = cc

      last : (xs : List SeatedRun) (x : SeatedRun) → slice_get (xs ++ x ∷ []) (length xs) ≡ Some x
      last [] x = refl
      last (y ∷ xs) x = last xs x

-- ---- the closed log

pub begins : (lock : TableId) (p : Place Entry (List Domain)) (w : List Domain) → p.lock ≡ lock → p.view ≡ opener 65535 w → IsOpening lock p
begins lock p w at is = record {
  lock = at;
  number = ap (λ (v : SeatView). v.number) is;
  seen = ap (λ (v : SeatView). v.seen) is;
  own = ap (λ (v : SeatView). v.own) is;
  splits = ap (λ (v : SeatView). v.splits) is;
  given = ap (λ (v : SeatView). v.given) is;
  joined = ap (λ (v : SeatView). v.joined) is;
}

module _ (tables : List Versions) (lock : TableId) (programs : List (List ScriptStep)) (opening place : Place Entry (List Domain)) (replies : Result (List (List StepReply)) RunFault)
    (limits : within_limits programs ≡ true) (begun : IsOpening lock opening) (ran : AreRan tables lock programs opening.view place replies) where
  abbrev v : SeatView
  v = opening.view

  number_is : place.view.number ≡ 65535
  number_is = ran.joins.number ∙ begun.number

  -- each client's number and entries are among those joined
  one_in : (i : ℕ) (f : SeatedRun) → slice_get ran.clients i ≡ Some f → In (i, (inside f.seat).view.own) place.view.joined
  one_in i f at =
      subst (λ (k : ℕ). In (k, (inside f.seat).view.own) place.view.joined) (ran.each i f at).keeps.1.0
      (subst (In (named f)) (sym ran.joins.joined) (in_map ran.clients i at))
    where
      in_map : (fs : List SeatedRun) (i : ℕ) → slice_get fs i ≡ Some f → In (named f) (map named fs)
      in_map [] i at = cc
      in_map (g ∷ fs) zero at = inl (ap named (same_Some g f at))
      in_map (g ∷ fs) (suc i) at = inr (in_map fs i at)

  pub covers_all : (k : ℕ) → In k place.view.given → AnswersFor place.view k
  covers_all k i = ⊎_elim
      (λ (e : 65535 ≡ k). inl (number_is ∙ e))
      (λ (h : In k (upto (length programs))).
      let l = in_upto (length programs) k h in
      let own = get_some ran.clients k (let long = ran.long in omega (arith, l, long)) in
      inr ((inside own.0.seat).view.own, one_in k own.0 own.1))
      (subst (In k) (ran.joins.rights begun.splits).1 i)

  -- no other number is
  none_else : (k : ℕ) → length programs ≤ k → (k ≡ 65535 → ⊥) → ¬ AnswersFor place.view k
  none_else k high other a = ⊎_elim
      (λ (e : place.view.number ≡ k). other (sym e ∙ number_is))
      (λ (h : (es : List Entry) × In (k, es) place.view.joined).
      let m = map_in ran.clients (k, h.0) (subst (In (k, h.0)) ran.joins.joined h.1) in
      let is : m.0 ≡ k = sym (ran.each m.0 m.1 m.2).keeps.1.0 ∙ ap (λ (p : ℕ × List Entry). p.0) m.3 in
      let within = slice_get_within ran.clients m.0 m.1 m.2 in
      let long = ran.long in
      absurd (omega (arith, is, within, long, high)))
      a
    where
      map_in : (fs : List SeatedRun) (y : ℕ × List Entry) → In y (map named fs) → (i : ℕ) × (f : SeatedRun) × (slice_get fs i ≡ Some f) × (named f ≡ y)
      map_in [] y h = absurd h
      map_in (g ∷ fs) y h = ⊎_elim (λ (e : named g ≡ y). (0, g, refl, e)) (λ (t : In y (map named fs)). let o = map_in fs y t in (suc o.0, o.1, o.2, o.3)) h

  module _ (hub : HubHistory) (world : place.view.ground ≡ Some hub.world) (seen : IsPrefix place.view.seen hub.log) (mine : entries_by maker_of place.view.number hub.log ≡ place.view.own)
      (joined : (k : ℕ) (es : List Entry) → In (k, es) place.view.joined → entries_by maker_of k hub.log ≡ es) (others : (k : ℕ) → ¬ AnswersFor place.view k → entries_by maker_of k hub.log ≡ []) where
    -- each client's entries
    theirs : (i : ℕ) (f : SeatedRun) → slice_get ran.clients i ≡ Some f → entries_by maker_of i hub.log ≡ (inside f.seat).view.own
    theirs i f at = joined i (inside f.seat).view.own (one_in i f at)

    -- an entry is one of its client's
    none_there : (k : ℕ) (log : List Entry) (i : ℕ) (e : Entry) → slice_get log i ≡ Some e → e.client ≡ k → entries_by maker_of k log ≡ [] → ⊥
    none_there k log i e at is none =
        let some = count_some k log i e at is in
        let length_is : length (entries_by maker_of k log) ≡ 0 = ap length none in
        absurd (omega (arith, some, length_is))
      where
        count_some : (k : ℕ) (log : List Entry) (i : ℕ) (e : Entry) → slice_get log i ≡ Some e → e.client ≡ k → 0 < length (entries_by maker_of k log)
        count_some k [] i e at is = cc
        count_some k (x ∷ log) zero e at is =
            let own : nat_eq x.client k ≡ true = eq-eqb x.client k (ap (λ (y : Entry). y.client) (same_Some x e at) ∙ is) in
            subst (λ (b : Bool). 0 < length (let kept : List Entry = cond b (x ∷ entries_by maker_of k log) (entries_by maker_of k log) in kept)) (sym own) (omega arith)
        count_some k (x ∷ log) (suc i) e at is = more (nat_eq x.client k) (count_some k log i e at is)
          where
            more : (b : Bool) → 0 < length (entries_by maker_of k log) → 0 < length (let kept : List Entry = cond b (x ∷ entries_by maker_of k log) (entries_by maker_of k log) in kept)
            more true h = omega arith
            more false h = h

    pub all_known : (i : ℕ) (e : Entry) → slice_get hub.log i ≡ Some e → e.client < length (clients_of programs)
    all_known i e at = ⊎_elim
        (λ (h : e.client < length programs). let same = map_long moves_of programs in omega (arith, h, same))
        (λ (high : length programs ≤ e.client). absurd (by (nat_eq e.client 65535) refl high))
        (below_or e.client (length programs))
      where
        below_or : (a b : ℕ) → (a < b) ⊎ (b ≤ a)
        below_or a b = grind arith

        by : (b : Bool) → nat_eq e.client 65535 ≡ b → length programs ≤ e.client → ⊥
        by true is high =
            let is' : e.client ≡ 65535 = eqb-true e.client 65535 is in
            none_there e.client hub.log i e at refl (ap (λ (k : ℕ). entries_by maker_of k hub.log) (is' ∙ sym number_is) ∙ mine ∙ ran.joins.own ∙ begun.own)
        by false is high =
            none_there e.client hub.log i e at refl (others e.client (none_else e.client high (λ same. true≢false (sym (eq-eqb e.client 65535 same) ∙ is))))

    -- the clients' programs as moves
    program_of : (c : ℕ) (steps : List Move) → slice_get (clients_of programs) c ≡ Some steps → (p : List ScriptStep) × (slice_get programs c ≡ Some p) × (moves_of p ≡ steps)
    program_of c steps at =
        let within : c < length programs = let l = slice_get_within (clients_of programs) c steps at in let same = map_long moves_of programs in omega (arith, l, same) in
        let own = get_some programs c within in
        (own.0, own.1, same_Some (moves_of own.0) steps (sym (slice_get-map moves_of programs c ∙ ap (option_map moves_of) own.1) ∙ at))

    pub closed_short : length hub.log ≤ 960000
    closed_short = log_is_short (clients_of programs) hub.log limits' all_known few
      where
        limits' : IsTrue (within_limits (clients_of programs))
        limits' =
            let parts = and_parts (nat_le (length programs) 16) (list_all (λ (q : List ScriptStep). nat_le (length q) 60000) programs) limits in
            (λ k. (ap (λ (n : ℕ). nat_le n 16) (map_long moves_of programs) ∙ parts.0) k && moves_short programs parts.1 k)

        few : (c : ℕ) (steps : List Move) → slice_get (clients_of programs) c ≡ Some steps → entries_of hub.log c ≤ length steps
        few c steps at =
            let p = program_of c steps at in
            let own = get_some ran.clients c (let l = slice_get_within programs c p.0 p.1 in let long = ran.long in omega (arith, l, long)) in
            let most = (ran.each c own.0 own.1).few p.0 p.1 in
            let count = sym (length-filter (λ (e : Entry). nat_eq e.client c) hub.log) ∙ ap length (theirs c own.0 own.1) in
            let same : length (moves_of p.0) ≡ length p.0 = map_long move_of p.0 in
            let as_moves = ap length p.2 in
            omega (arith, most, count, same, as_moves)

    pub never_full : replies ≡ Err HistoryFull → ⊥
    never_full is =
        let o = ran.collects.full is in
        let full = (ran.each o.0 o.1 o.2).full o.3 in
        let starts = prefix_trans (inside o.1.seat).view.seen place.view.seen hub.log (ran.joins.seen o.0 o.1 o.2) seen in
        let long : length (inside o.1.seat).view.seen + length starts.0 ≡ length hub.log = sym (length-append (inside o.1.seat).view.seen starts.0) ∙ ap length starts.1 in
        let short = closed_short in
        omega (arith, full, long, short)

    pub same_world : (known v).world ≡ hub.world
    same_world = ap (λ (g : Option (List Domain)). unwrap_or g []) (sym ran.joins.ground ∙ world)

    pub are_left : tables ≡ versions_of hub.world → (list : List (List StepReply)) → replies ≡ Ok list → AreLogOf hub.world (clients_of programs) hub.log list
    are_left reads list is = record {
      known = all_known;
      all = ap length (ran.collects.all list is) ∙ (map_long (λ (g : SeatedRun). replies_in g.run) ran.clients ∙ (ran.long ∙ sym (map_long moves_of programs)));
      each = λ c steps rs at_steps at_rs.
          let p = program_of c steps at_steps in
          let own = get_some ran.clients c (let l = slice_get_within programs c p.0 p.1 in let long = ran.long in omega (arith, l, long)) in
          let f : SeatedRun = own.0 in
          let worked = ran.each c f own.1 in
          let is_rs : replies_in f.run ≡ rs = same_Some (replies_in f.run) rs (sym (slice_get-map (λ (g : SeatedRun). replies_in g.run) ran.clients c ∙ ap (option_map (λ (g : SeatedRun). replies_in g.run)) own.1) ∙ (λ k. slice_get (sym (ran.collects.all list is) k) c) ∙ at_rs) in
          let ended : HasEnded tables p.0 (inside f.seat).view f.run = subst (λ (r : Result (Unit {0}) RunFault). OnOk r ((q : List ScriptStep) → slice_get programs c ≡ Some q → HasEnded tables q (inside f.seat).view f.run)) (ran.collects.ended list is c f own.1) worked.ended p.0 p.1 in
          let number : (inside f.seat).view.number ≡ c = worked.keeps.1.0 in
          let there : (known (inside f.seat).view).world ≡ hub.world = ap (λ (g : Option (List Domain)). unwrap_or g []) worked.keeps.1.1 ∙ same_world in
          let starts = prefix_trans (inside f.seat).view.seen place.view.seen hub.log (ran.joins.seen c f own.1) seen in
          let last : Run = record { client = client_of f.run.client; steps = [] } in
          let at : IsAt tables hub.world c (moves_of p.0) (inside f.seat).view.seen last =
          subst (λ (w : List Domain). IsAt tables w c (moves_of p.0) (inside f.seat).view.seen last) there
          (subst (λ (n : ℕ). IsAt tables (known (inside f.seat).view).world n (moves_of p.0) (inside f.seat).view.seen last) number ended.at) in
          let whole : entries_by maker_of c (inside f.seat).view.seen ≡ (inside f.seat).view.own = subst (λ (n : ℕ). entries_by maker_of n (inside f.seat).view.seen ≡ (inside f.seat).view.own) number ended.whole in
          let closed = at_found_own tables hub.world c (moves_of p.0) (inside f.seat).view.seen hub.log (inside f.seat).view.own last starts whole (theirs c f own.1) at in
          let finishes : PerformsAlong tables hub.world c hub.log (moves_of p.0) (replies_in f.run) = at_end tables hub.world c (moves_of p.0) hub.log (client_of f.run.client) closed in
          subst (λ (t : List Versions). PerformsAlong t hub.world c hub.log steps rs) reads
          (subst (λ (ms : List Move). PerformsAlong tables hub.world c hub.log ms rs) p.2
          (subst (λ (r : List StepReply). PerformsAlong tables hub.world c hub.log (moves_of p.0) r) is_rs finishes));
    }
