-- What clients left is the result of playing them in the order of its log.
use Rattle.std.proofs.Common.{◌≡◌, ℕ, zero, suc, ◌+◌, ◌<◌, Bool, true, false, List, [], ◌∷◌, ◌++◌, length, set, Option, None, Some, Result, Ok, is_ok, if◌then◌else◌, refl, ap, sym, ◌∙◌, subst, arith, append_assoc, append-nil, inl, inr}
use Rattle.std.specs.Prelude.{nat_eq, option_and_then, slice_get}
use Rattle.std.specs.Option.{option_map}
use Rattle.std.proofs.lemmas.List.{append_cancel_left, length-map, length-set}
use Rattle.std.proofs.lemmas.Option.{same_Some}
use mathlib.Core.List.{IsPrefix}
use Rattle.sal_history.specs.declared.call.Entry.{Entry}
use Rattle.sal_history.specs.World.{Domain}
use Rattle.sal_script.specs.declared.reply.StepReply.{StepReply}
use Rattle.sal_script.specs.Moves.{Move}
use Rattle.sal_script.specs.Play.{Arrival, Made, Played, Run, PlayState, arrive, calls, cons_replies, end_by, ended, go, make, play_by, play_from, replies_at, replies_of, state_with, start, advance, advance_of}
use Rattle.sal_script.specs.Tables.{Versions, versions_of}
use Rattle.sal_script.specs.Along.{Left, finish, new_run, order_of, pass}
use Rattle.sal_script.specs.OneOrder.{LeftIsOneOrder}
use Rattle.sal_script.proofs.Along.{along_from, entry_at, made_of, pass_other, pass_own}
use Rattle.sal_script.proofs.Listed.{get-set, get_some}
use Rattle.sal_script.proofs.Orders.{plays_follow_their_order}

-- ---- what a client makes begins with what it made before

abbrev log_or : List Entry → Option Made → List Entry
log_or log None = log
log_or log (Some made) = made.log

abbrev head_or : Entry → List Entry → Entry
head_or e [] = e
head_or e (x ∷ xs) = x

module _ (tables : List Versions) (world : List Domain) (c : ℕ) where
  -- one entry more
  abbrev Adds : List Entry → Made → Type 0
  Adds log made = (e : Entry) × (made.log ≡ log ++ e ∷ [])

  make_adds : (log : List Entry) (a : Arrival) (made : Made) → make tables world log c a ≡ Some made → Adds log made
  make_adds log (ended client) made is = cc
  make_adds log (calls call step run) made is = (entry_at tables world c log call, sym (ap (log_or log) is))

  pass_adds : (made next : Made) (e : Entry) → pass tables world c made e ≡ Some next → Adds made.log next
  pass_adds made next e is = by (nat_eq e.client c) is
    where
      by : (own : Bool) → (if own then go tables world made.log c made.run else Some (made_of (made.log ++ e ∷ []) made.run)) ≡ Some next → Adds made.log next
      by true went = make_adds made.log (arrive tables world made.log made.run.client made.run.steps) next went
      by false went = (e, sym (ap (log_or made.log) went))

  from_none : (rest : List Entry) → along_from tables world c None rest ≡ None
  from_none [] = refl
  from_none (e ∷ rest) = from_none rest

  pub no_end : (rest : List Entry) (last : Made) → along_from tables world c None rest ≡ Some last → ⊥
  no_end rest last is = let none : None ≡ Some last = sym (from_none rest) ∙ is in cc

  begins : (rest : List Entry) (made last : Made) → along_from tables world c (Some made) rest ≡ Some last → IsPrefix made.log last.log
  begins [] made last is = ([], append-nil made.log ∙ ap (log_or made.log) is)
  begins (e ∷ rest) made last is = by (pass tables world c made e) refl (λ next on. begins rest next last on) is
    where
      by : (o : Option Made) → pass tables world c made e ≡ o → ((next : Made) → along_from tables world c (Some next) rest ≡ Some last → IsPrefix next.log last.log) → along_from tables world c o rest ≡ Some last
          → IsPrefix made.log last.log
      by None went later on = absurd (no_end rest last on)
      by (Some next) went later on =
          let added = pass_adds made next e went in
          let more = later next on in
          (added.0 ∷ more.0, sym (append_assoc made.log (added.0 ∷ []) more.0) ∙ ap (λ (log : List Entry). log ++ more.0) (sym added.1) ∙ more.1)

  -- ---- the end of a client

  -- from some place on, the client reaches its end with this log and these replies
  abbrev pub Ends : Option Made → List Entry → List Entry → List StepReply → Type 0
  Ends so_far rest log rs = option_and_then (finish tables world c) (along_from tables world c so_far rest) ≡ Some (let left : Left = record { log = log; replies = rs } in left)

  abbrev left_log : Left → Option Left → List Entry
  left_log left None = left.log
  left_log left (Some l) = l.log

  abbrev left_replies : Left → Option Left → List StepReply
  left_replies left None = left.replies
  left_replies left (Some l) = l.replies

  finish_parts : (made : Made) (left : Left) → finish tables world c made ≡ Some left → (made.log ≡ left.log) × (replies_at (arrive tables world made.log made.run.client made.run.steps) ≡ Some left.replies)
  finish_parts made left is = by (replies_at (arrive tables world made.log made.run.client made.run.steps)) refl is
    where
      by : (o : Option (List StepReply)) → replies_at (arrive tables world made.log made.run.client made.run.steps) ≡ o
          → option_map (λ replies. let l : Left = record { log = made.log; replies = replies } in l) o ≡ Some left → (made.log ≡ left.log) × (replies_at (arrive tables world made.log made.run.client made.run.steps) ≡ Some left.replies)
      by None at e = cc
      by (Some rs) at e = (ap (left_log left) e, at ∙ ap Some (ap (left_replies left) e))

  pub last_log : (o : Option Made) (left : Left) → option_and_then (finish tables world c) o ≡ Some left → (last : Made) × (o ≡ Some last) × (last.log ≡ left.log)
  last_log None left is = cc
  last_log (Some last) left is = (last, refl, (finish_parts last left is).0)

  -- at an entry of another client
  other_step : (before : List Entry) (run : Run) (e : Entry) (rest log : List Entry) (rs : List StepReply) → (e.client ≡ c → ⊥) → Ends (Some (made_of before run)) (e ∷ rest) log rs → Ends (Some (made_of (before ++ e ∷ []) run)) rest log rs
  other_step before run e rest log rs other is = subst (λ (o : Option Made). Ends o rest log rs) (pass_other tables world c (made_of before run) e other) is

  -- at an entry of its own the client makes just this call
  own_step : (before : List Entry) (run : Run) (e : Entry) (rest : List Entry) (rs : List StepReply) → e.client ≡ c → Ends (Some (made_of before run)) (e ∷ rest) (before ++ e ∷ rest) rs
      → (next : Run) × (go tables world before c run ≡ Some (made_of (before ++ e ∷ []) next)) × Ends (Some (made_of (before ++ e ∷ []) next)) rest (before ++ e ∷ rest) rs
  own_step before run e rest rs own is =
      by (go tables world before c run) refl (subst (λ (o : Option Made). Ends o rest (before ++ e ∷ rest) rs) (pass_own tables world c (made_of before run) e own) is)
    where
      by : (o : Option Made) → go tables world before c run ≡ o → Ends o rest (before ++ e ∷ rest) rs
          → (next : Run) × (go tables world before c run ≡ Some (made_of (before ++ e ∷ []) next)) × Ends (Some (made_of (before ++ e ∷ []) next)) rest (before ++ e ∷ rest) rs
      by None went on = let last = last_log (along_from tables world c None rest) (record { log = before ++ e ∷ rest; replies = rs }) on in absurd (no_end rest last.0 last.1)
      by (Some made) went on =
          let last = last_log (along_from tables world c (Some made) rest) (record { log = before ++ e ∷ rest; replies = rs }) on in
          let added = make_adds before (arrive tables world before run.client run.steps) made went in
          let more = begins rest made last.0 last.1 in
          let whole : before ++ (added.0 ∷ more.0) ≡ before ++ (e ∷ rest) =
          sym (append_assoc before (added.0 ∷ []) more.0) ∙ ap (λ (log : List Entry). log ++ more.0) (sym added.1) ∙ more.1 ∙ last.2 in
          let same : added.0 ≡ e = ap (head_or e) (append_cancel_left before (added.0 ∷ more.0) (e ∷ rest) whole) in
          let this : made ≡ made_of (before ++ e ∷ []) made.run = (λ i. made_of (added.1 i) made.run) ∙ (λ i. made_of (before ++ same i ∷ []) made.run) in
          (made.run, went ∙ ap Some this, subst (λ (m : Made). Ends (Some m) rest (before ++ e ∷ rest) rs) this on)

-- ---- all of them

module _ (tables : List Versions) (world : List Domain) where
  all_reply : (log : List Entry) (runs : List Run) (all : List (List StepReply)) → length runs ≡ length all
      → ((c : ℕ) (run : Run) (rs : List StepReply) → slice_get runs c ≡ Some run → slice_get all c ≡ Some rs → replies_at (arrive tables world log run.client run.steps) ≡ Some rs)
      → replies_of tables world log runs ≡ Some all
  all_reply log [] [] long each = refl
  all_reply log [] (rs ∷ all) long each = absurd (omega (arith, long))
  all_reply log (run ∷ runs) [] long each = absurd (omega (arith, long))
  all_reply log (run ∷ runs) (rs ∷ all) long each =
      let first = each zero run rs refl refl in
      let others = all_reply log runs all (omega (arith, long)) (λ c r xs at at'. each (suc c) r xs at at') in
      λ i. cons_replies (first i) (others i)

  module _ (replies : List (List StepReply)) where
    -- each client reaches its end with its replies
    abbrev AllEnd : List Entry → List Run → List Entry → List Entry → Type 0
    AllEnd before runs rest log = (c : ℕ) (run : Run) (rs : List StepReply) → slice_get runs c ≡ Some run → slice_get replies c ≡ Some rs → Ends tables world c (Some (made_of before run)) rest log rs

    -- where client c made the entry
    next_end : (before : List Entry) (runs : List Run) (e : Entry) (rest log : List Entry) (c : ℕ) (next : Run) (own : List StepReply) → e.client ≡ c → slice_get replies c ≡ Some own
        → Ends tables world c (Some (made_of (before ++ e ∷ []) next)) rest log own → AllEnd before runs (e ∷ rest) log → AllEnd (before ++ e ∷ []) (set runs c next) rest log
    next_end before runs e rest log c next own is at_own went was d run rs at at_rs =
        elim (get-set runs c next d run at) [
          | inl w ↦
              let same : own ≡ rs = same_Some own rs (sym at_own ∙ ap (slice_get replies) (sym w.0) ∙ at_rs) in
              subst (λ (r : Run). Ends tables world d (Some (made_of (before ++ e ∷ []) r)) rest log rs) w.1
              (subst (λ (k : ℕ). Ends tables world k (Some (made_of (before ++ e ∷ []) next)) rest log rs) (sym w.0)
              (subst (λ (xs : List StepReply). Ends tables world c (Some (made_of (before ++ e ∷ []) next)) rest log xs) same went))
          | inr w ↦ other_step tables world d before run e rest log rs (λ mine. w.0 (sym mine ∙ is)) (was d run rs w.1 at_rs)
        ]

    plays : (rest before : List Entry) (index : ℕ) (runs : List Run) → length runs ≡ length replies → ((i : ℕ) (e : Entry) → slice_get rest i ≡ Some e → e.client < length replies) → AllEnd before runs rest (before ++ rest)
        → play_from tables world index (record { log = before; runs = runs }) (order_of rest) ≡ Ok (record { log = before ++ rest; replies = replies })
    plays [] before index runs long known was =
        ap (end_by tables world index before)
        (all_reply before runs replies long (λ c run rs at at_rs. (finish_parts tables world c (made_of before run) (record { log = before ++ []; replies = rs }) (was c run rs at at_rs)).1))
        ∙ (λ i. let played : Result Played ℕ = Ok (record { log = sym (append-nil before) i; replies = replies }) in played)
    plays (e ∷ rest) before index runs long known was =
        let c : ℕ = e.client in
        let within : c < length replies = known zero e refl in
        let mine : (run : Run) × (slice_get runs c ≡ Some run) = get_some runs c (omega (arith, long, within)) in
        let own : (rs : List StepReply) × (slice_get replies c ≡ Some rs) = get_some replies c within in
        let went = own_step tables world c before mine.0 e rest own.0 refl (was c mine.0 own.0 mine.1 own.1) in
        let state : PlayState = record { log = before; runs = runs } in
        let turned : advance tables world state c ≡ Some (let s : PlayState = record { log = before ++ e ∷ []; runs = set runs c went.0 } in s) =
        ap (advance_of tables world state c) mine.1 ∙ ap (state_with state c) went.1 in
        let all : AllEnd (before ++ e ∷ []) (set runs c went.0) rest ((before ++ e ∷ []) ++ rest) =
        subst (AllEnd (before ++ e ∷ []) (set runs c went.0) rest) (sym (append_assoc before (e ∷ []) rest)) (next_end before runs e rest (before ++ e ∷ rest) c went.0 own.0 refl own.1 went.2 was) in
        ap (play_by index (λ next. play_from tables world (index + 1) next (order_of rest))) turned
        ∙ plays rest (before ++ e ∷ []) (index + 1) (set runs c went.0) (length-set runs c went.0 ∙ long) (λ i x at. known (suc i) x at) all
        ∙ (λ i. let played : Result Played ℕ = Ok (record { log = append_assoc before (e ∷ []) rest i; replies = replies }) in played)

-- ---- from the beginning

pub run_at : (clients : List (List Move)) (c : ℕ) (run : Run) → slice_get (start clients).runs c ≡ Some run → (steps : List Move) × (slice_get clients c ≡ Some steps) × (new_run steps ≡ run)
run_at [] c run at = cc
run_at (steps ∷ clients) zero run at = (steps, refl, same_Some (new_run steps) run at)
run_at (steps ∷ clients) (suc c) run at = run_at clients c run at

pub what_is_left_is_one_order : LeftIsOneOrder
what_is_left_is_one_order world clients log replies left =
    let tables : List Versions = versions_of world in
    let ends : AllEnd tables world replies [] (start clients).runs log log =
    λ c run rs at at_rs.
    let mine = run_at clients c run at in
    subst (λ (r : Run). Ends tables world c (Some (made_of [] r)) log log rs) mine.2 (left.each c mine.0 rs mine.1 at_rs) in
    let played = plays tables world replies log [] 0 (start clients).runs (length-map clients new_run ∙ sym left.all) (λ i e at. omega (arith, left.known i e at, left.all)) ends in
    record {
      plays = played;
      legal = ap is_ok played;
      follows = plays_follow_their_order world clients (order_of log) (record { log = log; replies = replies }) played;
    }
