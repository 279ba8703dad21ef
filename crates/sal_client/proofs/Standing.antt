-- The places of all clients, read and changed by index.
use Rattle.std.proofs.Common.{◌≡◌, ℕ, zero, suc, ◌+◌, ◌*◌, ◌<◌, ◌≤◌, Bool, true, false, List, [], ◌∷◌, ◌++◌, length, map, get_or, set, drop, take, Option, None, Some, refl, ap, sym, ◌∙◌, subst, arith, append_assoc, append-nil, length-append, IsTrue, inl, inr}
use Rattle.std.specs.Prelude.{slice_get, nat_le}
use Rattle.std.specs.List.{list_all}
use Rattle.std.proofs.lemmas.List.{get_or-set_other, get_or-set_same, length-set, drop_more, take_all, drop_all, get_or_append_left}
use Rattle.std.proofs.Math.Seq.{get_or-append_seam}
use Rattle.std.proofs.lemmas.Grind.{take-set_at}
use Rattle.std.proofs.lemmas.Bool.{cases_lt, cases_order, leb-true}
use Rattle.std.specs.Cmp.{first_so, second_so}
use Rattle.sal_history.specs.declared.call.Entry.{Entry}
use Rattle.sal_script.specs.declared.reply.StepReply.{StepReply}
use Rattle.sal_script.specs.declared.script.ScriptStep.{ScriptStep}
use Rattle.sal_script.specs.Limits.{within_limits}
use Rattle.sal_script.specs.Play.{Arrival, Client, Made, Run, PlayState, arrive, calls, cons_replies, ended, go, make, new_client, replies_at, replies_of, state_with, advance, advance_of}
use Rattle.sal_script.specs.Tables.{Versions}
use Rattle.sal_client.specs.declared.run.ClientRun.{ClientRun as CodeRun}
use Rattle.sal_hub.specs.HubHistory.{HubHistory, more}
use Rattle.sal_hub.specs.Answers.{limit}
use Rattle.sal_client.specs.Clients.{client_of, IsSound}
use Rattle.sal_client.specs.Runs.{AreRuns, Goes, IsRun, Advances, answered, moves_from, replies_in, run_of, runs_of, stand_of}
use Rattle.sal_client.specs.Wishes.{GrowsBy}
use Rattle.sal_client.proofs.Soundness.{IsSound-other, TokensLast}
use Rattle.sal_history.specs.World.{Domain}
use Rattle.sal_script.specs.JsonMoves.{have_json_moves}
use Rattle.sal_script.specs.Moves.{Move, clients_of, moves_of}
use Rattle.sal_client.proofs.Values.{program_at}

-- ---- by index

pub runs_of-at : (ps : List (List ScriptStep)) (rs : List CodeRun) (i : ℕ) (p : List ScriptStep) (r : CodeRun) → length rs ≡ length ps → i < length rs → p ≡ get_or ps i p → r ≡ get_or rs i r → slice_get (runs_of ps rs) i ≡ Some (run_of p r)
runs_of-at [] [] i p r long h at_p at_r = absurd (omega arith)
runs_of-at [] (x ∷ rs) i p r long h at_p at_r = absurd (omega arith)
runs_of-at (q ∷ ps) [] i p r long h at_p at_r = absurd (omega arith)
runs_of-at (q ∷ ps) (x ∷ rs) zero p r long h at_p at_r = λ k. Some (run_of (sym at_p k) (sym at_r k))
runs_of-at (q ∷ ps) (x ∷ rs) (suc i) p r long h at_p at_r = runs_of-at ps rs i p r (omega arith) (omega arith) at_p at_r

pub runs_of-none : (ps : List (List ScriptStep)) (rs : List CodeRun) (i : ℕ) → length rs ≡ length ps → length rs ≤ i → slice_get (runs_of ps rs) i ≡ None
runs_of-none [] rs i long h = refl
runs_of-none (q ∷ ps) [] i long h = refl
runs_of-none (q ∷ ps) (x ∷ rs) zero long h = absurd (omega arith)
runs_of-none (q ∷ ps) (x ∷ rs) (suc i) long h = runs_of-none ps rs i (omega arith) (omega arith)

pub runs_of-set : (ps : List (List ScriptStep)) (rs : List CodeRun) (i : ℕ) (p : List ScriptStep) (r : CodeRun) → length rs ≡ length ps → i < length rs → p ≡ get_or ps i p → runs_of ps (set rs i r) ≡ set (runs_of ps rs) i (run_of p r)
runs_of-set [] [] i p r long h at_p = absurd (omega arith)
runs_of-set [] (x ∷ rs) i p r long h at_p = absurd (omega arith)
runs_of-set (q ∷ ps) [] i p r long h at_p = absurd (omega arith)
runs_of-set (q ∷ ps) (x ∷ rs) zero p r long h at_p = ap (λ (o : List ScriptStep). run_of o r ∷ runs_of ps rs) (sym at_p)
runs_of-set (q ∷ ps) (x ∷ rs) (suc i) p r long h at_p = ap (λ (us : List Run). run_of q x ∷ us) (runs_of-set ps rs i p r (omega arith) (omega arith) at_p)

-- ---- how many calls

-- a client answers more steps
answered-set : (rs : List CodeRun) (i : ℕ) (old new : CodeRun) → i < length rs → old ≡ get_or rs i old → answered (set rs i new) + old.at ≡ answered rs + new.at
answered-set [] i old new h at = absurd (omega arith)
answered-set (x ∷ rs) zero old new h at = let same : old.at ≡ x.at = ap (λ (r : CodeRun). r.at) at in omega (arith, same)
answered-set (x ∷ rs) (suc i) old new h at = let rest = answered-set rs i old new (omega arith) at in omega (arith, rest)

answered-bound : (rs : List CodeRun) → ((i : ℕ) (r : CodeRun) → i < length rs → r ≡ get_or rs i r → r.at ≤ 60000) → answered rs ≤ 60000 * length rs
answered-bound [] each = omega arith
answered-bound (x ∷ rs) each =
    let first : x.at ≤ 60000 = each 0 x (omega arith) refl in
    let rest = answered-bound rs (λ i r h at. each (suc i) r (omega arith) at) in
    omega (arith, first, rest)

-- the log has room
pub has_room : (known : HubHistory) (ps : List (List ScriptStep)) (rs : List CodeRun) → AreRuns known ps rs → length known.log < limit
has_room known ps rs are =
    let bound = answered-bound rs (λ i r h at. let run = (are.each i (get_or ps i []) r h (get_or_any ps i [] (get_or ps i []) (omega (arith, h, are.long))) at).0 in omega (arith, run.program.within, run.program.short)) in
    omega (arith, are.calls, are.few, bound)
  where
    get_or_any : {X : Type 0} (xs : List X) (i : ℕ) (d f : X) → i < length xs → get_or xs i d ≡ get_or xs i f
    get_or_any [] i d f l = absurd (omega arith)
    get_or_any (x ∷ xs) zero d f l = refl
    get_or_any (x ∷ xs) (suc i) d f l = get_or_any xs i d f (omega arith)

-- ---- other clients

IsRun-other : TokensLast → (known : HubHistory) (e : Entry) (p : List ScriptStep) (r : CodeRun) → (e.client ≡ r.client.number → ⊥) → IsRun known p r → IsRun (more known e) p r
IsRun-other lasts known e p r other is = record { sound = IsSound-other lasts known e r.client other is.sound; program = is.program }

-- one client continued
pub AreRuns-set : TokensLast → (known known' : HubHistory) (ps : List (List ScriptStep)) (rs : List CodeRun) (c : ℕ) (p : List ScriptStep) (old new : CodeRun) → AreRuns known ps rs → GrowsBy c known known' → old.at < new.at → c < length rs → p ≡ get_or ps c p → old ≡ get_or rs c old → IsRun known' p new → new.client.number ≡ c → AreRuns known' ps (set rs c new)
AreRuns-set lasts known known' ps rs c p old new are (e, by, is) on h at_p at_old run number = record {
  long = length-set rs c new ∙ are.long;
  few = omega (arith, are.few, length-set rs c new);
  calls = let total = answered-set rs c old new h at_old in let grown : length known'.log ≡ length known.log + 1 = ap (λ (k : HubHistory). length k.log) is ∙ length-append known.log (e ∷ []) in omega (arith, are.calls, total, grown, on);
  each = λ i q r within at_q at_r.
      elim (cases_order i c) [
        | inl same ↦
            let r_is : new ≡ r = sym (at_r ∙ ap (λ k. get_or (set rs c new) k r) same ∙ get_or-set_same rs c new r h) in
            let q_is : p ≡ q = at_p ∙ ap (λ (k : ℕ). get_or ps k p) (sym same) ∙ get_or_any ps i p q (omega (arith, within, length-set rs c new, are.long)) ∙ sym at_q in
            (subst (λ (x : CodeRun). IsRun known' q x) r_is (subst (λ (x : List ScriptStep). IsRun known' x new) q_is run), ap (λ (x : CodeRun). x.client.number) (sym r_is) ∙ number ∙ sym same)
        | inr differs ↦
            let apart : i ≡ c → ⊥ = λ eq. elim differs [ inl less ↦ omega arith | inr more ↦ omega arith ] in
            let r_is : r ≡ get_or rs i r = at_r ∙ get_or-set_other rs c i new r apart in
            let was = are.each i q r (omega (arith, within, length-set rs c new)) at_q r_is in
            (subst (λ (k : HubHistory). IsRun k q r) (sym is) (IsRun-other lasts known e q r (λ own. apart (sym was.1 ∙ sym own ∙ by)) was.0), was.1)
      ];
}
  where
    get_or_any : {X : Type 0} (xs : List X) (i : ℕ) (d f : X) → i < length xs → get_or xs i d ≡ get_or xs i f
    get_or_any [] i d f l = absurd (omega arith)
    get_or_any (x ∷ xs) zero d f l = refl
    get_or_any (x ∷ xs) (suc i) d f l = get_or_any xs i d f (omega arith)

-- ---- one number of the order

pub advance-none : (tables : List Versions) (known : HubHistory) (ps : List (List ScriptStep)) (rs : List CodeRun) (c : ℕ) → AreRuns known ps rs → length rs ≤ c → advance tables known.world (stand_of ps known.log rs) c ≡ None
advance-none tables known ps rs c are h = ap (advance_of tables known.world (stand_of ps known.log rs) c) (runs_of-none ps rs c are.long h)

pub advance-made : (tables : List Versions) (world : List Domain) (log log' : List Entry) (ps : List (List ScriptStep)) (rs : List CodeRun) (c : ℕ) (p : List ScriptStep) (old new : CodeRun) → length rs ≡ length ps → c < length rs → p ≡ get_or ps c p → old ≡ get_or rs c old → go tables world log c (run_of p old) ≡ Some (record { log = log'; run = run_of p new }) → advance tables world (stand_of ps log rs) c ≡ Some (stand_of ps log' (set rs c new))
advance-made tables world log log' ps rs c p old new long h at_p at_old goes =
    ap (advance_of tables world (stand_of ps log rs) c) (runs_of-at ps rs c p old long h at_p at_old) ∙ ap (state_with (stand_of ps log rs) c) goes
    ∙ ap (λ (us : List Run). Some (let s : PlayState = record { log = log'; runs = us } in s)) (sym (runs_of-set ps rs c p new long h at_p))

pub advance-ended : (tables : List Versions) (world : List Domain) (log : List Entry) (ps : List (List ScriptStep)) (rs : List CodeRun) (c : ℕ) (p : List ScriptStep) (old : CodeRun) (client : Client) → length rs ≡ length ps → c < length rs → p ≡ get_or ps c p → old ≡ get_or rs c old → arrive tables world log (client_of old.client) (moves_from old.at p) ≡ ended client → advance tables world (stand_of ps log rs) c ≡ None
advance-ended tables world log ps rs c p old client long h at_p at_old arrived =
    ap (advance_of tables world (stand_of ps log rs) c) (runs_of-at ps rs c p old long h at_p at_old) ∙ ap (λ a. state_with (stand_of ps log rs) c (make tables world log c a)) arrived

-- ---- the end

-- replies in front of those that come
abbrev pub with_replies : List (List StepReply) → Option (List (List StepReply)) → Option (List (List StepReply))
with_replies done None = None
with_replies done (Some rest) = Some (done ++ rest)

pub with_replies-cons : (done : List (List StepReply)) (rs : List StepReply) (rest : Option (List (List StepReply))) → with_replies done (cons_replies (Some rs) rest) ≡ with_replies (done ++ rs ∷ []) rest
with_replies-cons done rs None = refl
with_replies-cons done rs (Some rest) = ap Some (sym (append_assoc done (rs ∷ []) rest))

-- a client that made a call has not reached its end
not_ended : (tables : List Versions) (world : List Domain) (log : List Entry) (c : ℕ) (a : Arrival) (made : Made) → make tables world log c a ≡ Some made → replies_at a ≡ None
not_ended tables world log c (ended client) made e = cc
not_ended tables world log c (calls call step run) made e = refl

from_index : (ps : List (List ScriptStep)) (rs : List CodeRun) (i : ℕ) (p : List ScriptStep) (r : CodeRun) → i < length rs → i < length ps → p ≡ get_or ps i p → r ≡ get_or rs i r → runs_of (drop i ps) (drop i rs) ≡ run_of p r ∷ runs_of (drop (i + 1) ps) (drop (i + 1) rs)
from_index ps rs i p r h g at_p at_r =
    (λ k. runs_of (drop_more ps i p g k) (drop_more rs i r h k)) ∙ (λ k. run_of (sym at_p k) (sym at_r k) ∷ runs_of (drop (i + 1) ps) (drop (i + 1) rs))

pub end-client : (tables : List Versions) (world : List Domain) (log : List Entry) (ps : List (List ScriptStep)) (rs : List CodeRun) (i : ℕ) (p : List ScriptStep) (r : CodeRun) (client : Client) (done : List (List StepReply)) → i < length rs → i < length ps → p ≡ get_or ps i p → r ≡ get_or rs i r → arrive tables world log (client_of r.client) (moves_from r.at p) ≡ ended client → with_replies done (replies_of tables world log (runs_of (drop i ps) (drop i rs))) ≡ with_replies (done ++ client.replies ∷ []) (replies_of tables world log (runs_of (drop (i + 1) ps) (drop (i + 1) rs)))
end-client tables world log ps rs i p r client done h g at_p at_r arrived =
    let rest = replies_of tables world log (runs_of (drop (i + 1) ps) (drop (i + 1) rs)) in
    ap (λ (us : List Run). with_replies done (replies_of tables world log us)) (from_index ps rs i p r h g at_p at_r)
    ∙ ap (λ a. with_replies done (cons_replies (replies_at a) rest)) arrived ∙ with_replies-cons done client.replies rest

pub end-call : (tables : List Versions) (world : List Domain) (log : List Entry) (ps : List (List ScriptStep)) (rs : List CodeRun) (i c : ℕ) (p : List ScriptStep) (r : CodeRun) (made : Made) (done : List (List StepReply)) → i < length rs → i < length ps → p ≡ get_or ps i p → r ≡ get_or rs i r → go tables world log c (run_of p r) ≡ Some made → with_replies done (replies_of tables world log (runs_of (drop i ps) (drop i rs))) ≡ None
end-call tables world log ps rs i c p r made done h g at_p at_r goes =
    let rest = replies_of tables world log (runs_of (drop (i + 1) ps) (drop (i + 1) rs)) in
    ap (λ (us : List Run). with_replies done (replies_of tables world log us)) (from_index ps rs i p r h g at_p at_r)
    ∙ ap (λ o. with_replies done (cons_replies o rest)) (not_ended tables world log c (arrive tables world log (client_of r.client) (moves_from r.at p)) made goes)

-- ---- the beginning

-- a client at its beginning
pub record IsFresh (r : CodeRun) : Type 0 where
  pub at : r.at ≡ 0
  pub client : client_of r.client ≡ new_client
  pub sound : (known : HubHistory) → IsSound known r.client

pub fresh_runs : (ps : List (List ScriptStep)) (rs : List CodeRun) → length rs ≡ length ps → ((i : ℕ) (r : CodeRun) → i < length rs → r ≡ get_or rs i r → IsFresh r) → runs_of ps rs ≡ map (λ (steps : List Move). let run : Run = record { client = new_client; steps = steps } in run) (clients_of ps)
fresh_runs [] rs long fresh = refl
fresh_runs (p ∷ ps) [] long fresh = absurd (omega arith)
fresh_runs (p ∷ ps) (r ∷ rs) long fresh =
    let is = fresh 0 r (omega arith) refl in
    (λ k. (let run : Run = record { client = is.client k; steps = moves_from (is.at k) p } in run) ∷ runs_of ps rs)
    ∙ ap (λ (us : List Run). (let run : Run = record { client = new_client; steps = moves_of p } in run) ∷ us) (fresh_runs ps rs (omega arith) (λ i x h at. fresh (suc i) x (omega arith) at))

-- and none has answered a step
all_at : {X : Type 0} (f : X → Bool) (xs : List X) (i : ℕ) (x : X) → list_all f xs ≡ true → i < length xs → x ≡ get_or xs i x → f x ≡ true
all_at f [] i x all h at = absurd (omega arith)
all_at f (y ∷ xs) zero x all h at = ap f at ∙ first_so (f y) (list_all f xs) all
all_at f (y ∷ xs) (suc i) x all h at = all_at f xs i x (second_so (f y) (list_all f xs) all) (omega arith) at

pub few_programs : (ps : List (List ScriptStep)) → IsTrue (within_limits ps) → length ps ≤ 16
few_programs ps limits = leb-true (length ps) 16 (first_so (nat_le (length ps) 16) (list_all (λ (p : List ScriptStep). nat_le (length p) 60000) ps) limits)

pub AreRuns-fresh : (known : HubHistory) (ps : List (List ScriptStep)) (rs : List CodeRun) → known.log ≡ [] → IsTrue (within_limits ps) → IsTrue (have_json_moves (clients_of ps)) → length rs ≡ length ps → ((i : ℕ) (r : CodeRun) → i < length rs → r ≡ get_or rs i r → IsFresh r × (r.client.number ≡ i)) → AreRuns known ps rs
AreRuns-fresh known ps rs none limits json long fresh = record {
  long = long;
  few = omega (arith, long, few_programs ps limits);
  calls = let no : length known.log ≡ 0 = ap length none in omega (arith, no);
  each = λ i p r h at_p at_r.
      let is = fresh i r h at_r in
      let short : length p ≤ 60000 = leb-true (length p) 60000 (all_at (λ (q : List ScriptStep). nat_le (length q) 60000) ps i p (second_so (nat_le (length ps) 16) (list_all (λ (q : List ScriptStep). nat_le (length q) 60000) ps) limits) (omega arith) at_p) in
      (record { sound = is.0.sound known; program = record { within = omega (arith, is.0.at); short = short; json = program_at ps i p json (omega arith) at_p } }, is.1);
}

-- ---- what the simulation does

pub turned : TokensLast → (tables : List Versions) (made : Bool) (known known' : HubHistory) (ps : List (List ScriptStep)) (rs : List CodeRun) (c : ℕ) (p : List ScriptStep) (old new : CodeRun) → AreRuns known ps rs → c < length rs → p ≡ get_or ps c p → old ≡ get_or rs c old → Goes tables made old.client.number known p old known' new → IsRun known' p new → new.client.number ≡ old.client.number → Advances tables made ps c known rs known' (set rs c new)
turned lasts tables true known known' ps rs c p old new are h at_p at_old goes run number =
    let same = (are.each c p old h at_p at_old).1 in (
      advance-made tables known.world known.log known'.log ps rs c p old new are.long h at_p at_old (subst (λ n. go tables known.world known.log n (run_of p old) ≡ Some (let made : Made = record { log = known'.log; run = run_of p new } in made)) same goes.0),
      AreRuns-set lasts known known' ps rs c p old new are (subst (λ n. GrowsBy n known known') same goes.1) goes.2 h at_p at_old run (number ∙ same),
      ap (λ (k : HubHistory). k.world) goes.1.2,
    )
turned lasts tables false known known' ps rs c p old new are h at_p at_old goes run number = advance-ended tables known.world known.log ps rs c p old (client_of new.client) are.long h at_p at_old goes.0

-- lists that are the same from an index on have the same items there
get_drop : {X : Type 0} (xs : List X) (i : ℕ) (d : X) → get_or (drop i xs) 0 d ≡ get_or xs i d
get_drop xs zero d = refl
get_drop [] (suc i) d = refl
get_drop (x ∷ xs) (suc i) d = get_drop xs i d

pub same_at : {X : Type 0} (xs ys : List X) (i : ℕ) (d : X) → drop i xs ≡ drop i ys → get_or xs i d ≡ get_or ys i d
same_at xs ys i d e = sym (get_drop xs i d) ∙ ap (λ zs. get_or zs 0 d) e ∙ get_drop ys i d

map_push : (rs : List CodeRun) (r : CodeRun) → map replies_in (rs ++ r ∷ []) ≡ map replies_in rs ++ replies_in r ∷ []
map_push [] r = refl
map_push (x ∷ rs) r = ap (λ (us : List (List StepReply)). replies_in x ∷ us) (map_push rs r)

pub replies_push : (rs : List CodeRun) (i : ℕ) (new : CodeRun) → i < length rs → map replies_in (take (i + 1) (set rs i new)) ≡ map replies_in (take i rs) ++ replies_in new ∷ []
replies_push rs i new h = ap (map replies_in) (take-set_at rs i (i + 1) new refl h) ∙ map_push (take i rs) new

pub all_ended : (tables : List Versions) (world : List Domain) (log : List Entry) (ps : List (List ScriptStep)) (rs now : List CodeRun) (i : ℕ) → length rs ≤ i → length ps ≤ i → length now ≤ i → with_replies (map replies_in (take i now)) (replies_of tables world log (runs_of (drop i ps) (drop i rs))) ≡ Some (map replies_in now)
all_ended tables world log ps rs now i h g k =
    (λ j. with_replies (map replies_in (take_all i now k j)) (replies_of tables world log (runs_of (drop_all i ps g j) (drop_all i rs h j)))) ∙ ap Some (append-nil (map replies_in now))

-- one more client at its beginning
pub fresh_more : (rs : List CodeRun) (new : CodeRun) → ((k : ℕ) (r : CodeRun) → k < length rs → r ≡ get_or rs k r → IsFresh r × (r.client.number ≡ k)) → IsFresh new → new.client.number ≡ length rs → (k : ℕ) (r : CodeRun) → k < length (rs ++ new ∷ []) → r ≡ get_or (rs ++ new ∷ []) k r → IsFresh r × (r.client.number ≡ k)
fresh_more rs new each fresh number k r h at =
    elim (cases_lt k (length rs)) [
      | inl less ↦ each k r less (at ∙ get_or_append_left rs (new ∷ []) r k less)
      | inr more ↦
          let last : k ≡ length rs = omega (arith, length-append rs (new ∷ [])) in
          let same : new ≡ r = sym (at ∙ ap (λ i. get_or (rs ++ new ∷ []) i r) last ∙ get_or-append_seam rs new [] r) in
          (subst IsFresh same fresh, ap (λ (x : CodeRun). x.client.number) (sym same) ∙ number ∙ sym last)
    ]
