-- Requests over a whole log: who made them, which client receives them, and their answers.
use Rattle.std.proofs.Common.{◌≡◌, ℕ, zero, suc, ◌+◌, ◌-◌, ◌<◌, ◌≤◌, Bool, true, false, not, ◌&&◌, ◌||◌, List, [], ◌∷◌, ◌++◌, length, take, Option, None, Some, refl, ap, sym, ◌∙◌, subst, arith, inl, inr, ◌⊎◌, append-nil, if◌then◌else◌, nat_eq}
use Rattle.std.specs.Prelude.{is_some, slice_get, unwrap_or}
use Rattle.std.specs.List.{cons_option}
use Rattle.std.specs.Option.{option_map, option_or}
use Rattle.std.proofs.lemmas.Bool.{cases_lt, eq-eqb, eqb-true, and_parts}
use Rattle.std.proofs.lemmas.List.Elements.{filter_map-append}
use Rattle.std.proofs.lemmas.List.Sums.{fold-append}
use Rattle.std.proofs.lemmas.Option.{none-some, same_Some}
use Rattle.sal_types.specs.declared.value.Step.{Step}
use Rattle.sal_types.specs.declared.row.Row.{Row}
use Rattle.sal_rows.specs.declared.outcome.CallFault.TheVariants.{NoCall}
use Rattle.sal_rpc.specs.declared.call.Request.{Request}
use Rattle.sal_rpc.specs.declared.call.RpcCall.{RpcCall}
use Rattle.sal_rpc.specs.declared.call.RpcCall.TheVariants as rpcs
use Rattle.sal_rpc.specs.declared.call.RpcFault.TheVariants as rpc_faults
use Rattle.sal_rpc.specs.declared.call.RpcReply.{RpcReply}
use Rattle.sal_rpc.specs.declared.call.RpcReply.TheVariants as rpc_replies
use Rattle.sal_rpc.specs.Routing.{Asked, Made, Requested, answer_to, answers, handed, hands, is_handed, is_request, make, made_of, output, owner_of, queue, reply_to as routes, request_at, requested, requests, sent_to, waiting_from}
use Rattle.sal_rpc.proofs.Answered.{answered-as-given, answers-stay}
use Rattle.sal_rpc.proofs.First.{handed-once}
use Rattle.sal_rpc.proofs.Requested.{answer-more, handed-more, requests-more}
use Rattle.sal_history.specs.declared.call.Call.{Call}
use Rattle.sal_history.specs.declared.call.Call.TheVariants.{Answer, Collect, Invoke, NextCall}
use Rattle.sal_history.specs.declared.reply.Reply.TheVariants as said
use Rattle.sal_history.specs.Services.{routed, rpc_asked, rpc_call, rpc_calls, rpc_of, rpc_reply}
use Rattle.sal_history.specs.ServiceLaws.{AnswersAreCollected, CollectedAsGiven, HandedOnceInALog, HandedToItsProvider}
use Rattle.sal_history.specs.World.{Domain}
use Rattle.sal_history.specs.History.{Answered, history, reply_to}
use Rattle.sal_history.proofs.Placed.{AreAnswered, are_answered, take_next, there_or_not}

-- ---- the router's answers from the shared ones

from-request : (rpc : ℕ) (x : RpcReply) (r : Request) → rpc_reply rpc x ≡ said.Request r → x ≡ rpc_replies.Handed r
from-request rpc (rpc_replies.Handed q) r e = cc
from-request rpc x r e = cc

from-accepted : (rpc : ℕ) (x : RpcReply) → rpc_reply rpc x ≡ said.Accepted → x ≡ rpc_replies.Accepted
from-accepted rpc rpc_replies.Accepted e = refl
from-accepted rpc x e = cc

from-output : (rpc : ℕ) (x : RpcReply) (k : ℕ) (rows : List Row) → rpc_reply rpc x ≡ said.Output k rows → x ≡ rpc_replies.Output rows
from-output rpc (rpc_replies.Output given) k rows e = cc
from-output rpc x k rows e = cc

-- ---- one entry more

-- calls with one more, if there is one
abbrev grown : List Made → Option Asked → List Made
grown made None = made
grown made (Some asked) = make made asked

routed-more : (h : List Answered) (a : Answered) → routed (h ++ a ∷ []) ≡ grown (routed h) (rpc_asked a.entry.client a.entry.call)
routed-more h a =
    let calls : List Asked = rpc_calls h in
    ap made_of (filter_map-append (λ (x : Answered). rpc_asked x.entry.client x.entry.call) h (a ∷ []))
    ∙ elim (rpc_asked a.entry.client a.entry.call) as (λ (o : Option Asked). made_of (calls ++ cons_option o []) ≡ grown (made_of calls) o) [
      | None ↦ ap made_of (append-nil calls)
      | Some asked ↦ fold-append make [] calls (asked ∷ [])
    ]

-- the answer that the router gave
abbrev with_reply : List Made → ℕ → RpcCall → Made
with_reply made client call = record { client = client; call = call; reply = routes made client call; owner = sent_to made call }

-- an invariant of the calls before an entry holds after it, if the router's call in the entry (if any) keeps it
kept_by : (P : List Made → Type 0) → ((made : List Made) (asked : Asked) → P made → P (make made asked)) → (made : List Made) (o : Option Asked) → P made → P (grown made o)
kept_by P keeps made None was = was
kept_by P keeps made (Some asked) was = keeps made asked was

module _ (P : List Made → Type 0) (keeps : (made : List Made) (asked : Asked) → P made → P (make made asked)) (h : List Answered) where
  kept_next : (n : ℕ) → P (routed (take n h)) → P (routed (take (suc n) h))
  kept_next n was = elim (there_or_not h n (slice_get h n) refl) [
    | inl w ↦
        let a : Answered = w.0 in
        subst (λ (b : List Answered). P (routed b)) (sym (take_next n h a w.1)) (subst P (sym (routed-more (take n h) a)) (kept_by P keeps (routed (take n h)) (rpc_asked a.entry.client a.entry.call) was))
    | inr same ↦ subst (λ (b : List Answered). P (routed b)) (sym same) was
  ]

  kept_on : (d n : ℕ) → P (routed (take n h)) → P (routed (take (d + n) h))
  kept_on zero n was = let e : n ≡ 0 + n = omega arith in subst (λ k. P (routed (take k h))) e was
  kept_on (suc d) n was = let e : suc (d + n) ≡ suc d + n = omega arith in subst (λ k. P (routed (take k h))) e (kept_next (d + n) (kept_on d n was))

  kept_later : (n m : ℕ) → n ≤ m → P (routed (take n h)) → P (routed (take m h))
  kept_later n m le was = let e : (m - n) + n ≡ m = omega (arith, le) in subst (λ k. P (routed (take k h))) e (kept_on (m - n) n was)

-- ---- the first request that waits

waits : (n : ℕ) (test : ℕ → Requested → Bool) (rs : List Requested) (w : ℕ × Requested) → slice_get (waiting_from n test rs) 0 ≡ Some w → (k : ℕ) × (w.0 ≡ n + k) × (slice_get rs k ≡ Some w.1) × (test w.0 w.1 ≡ true)
waits n test [] w e = cc
waits n test (r ∷ rs) w e =
    elim (test n r) as (λ b. test n r ≡ b → slice_get ((if b then (n, r) ∷ [] else []) ++ waiting_from (n + 1) test rs) 0 ≡ Some w → (k : ℕ) × (w.0 ≡ n + k) × (slice_get (r ∷ rs) k ≡ Some w.1) × (test w.0 w.1 ≡ true)) [
      | true ↦ λ yes at.
          let x : ℕ × Requested = (n, r) in
          let same : x ≡ w = cc in
          let number : n ≡ w.0 = ap (λ (z : ℕ × Requested). z.0) same in
          (0, omega (arith, number), ap (λ (z : ℕ × Requested). Some z.1) same, ap (λ (z : ℕ × Requested). test z.0 z.1) (sym same) ∙ yes)
      | false ↦ λ _ at.
          let later = waits (n + 1) test rs w at in
          let number : w.0 ≡ (n + 1) + later.0 = later.1 in
          (suc later.0, omega (arith, number), later.2, later.3)
    ] refl e

-- a client receives a request that goes to it
handed_of : (made : List Made) (client : ℕ) (r : Request) → routes made client rpcs.NextCall ≡ rpc_replies.Handed r
    → (q : Requested) × (request_at (requests made) r.id ≡ Some q) × (q.owner ≡ client) × (q.rpc ≡ r.rpc) × (q.context ≡ r.context) × (q.input ≡ r.input)
handed_of made client r = found (slice_get (queue made client) 0) refl
  where
    found : (o : Option (ℕ × Requested)) → slice_get (queue made client) 0 ≡ o → handed o ≡ rpc_replies.Handed r
        → (q : Requested) × (request_at (requests made) r.id ≡ Some q) × (q.owner ≡ client) × (q.rpc ≡ r.rpc) × (q.context ≡ r.context) × (q.input ≡ r.input)
    found None at e = cc
    found (Some w) at e =
        let x : Request = record { id = w.0; rpc = w.1.rpc; context = w.1.context; input = w.1.input } in
        let same : x ≡ r = cc in
        let is = waits 1 (λ id q. nat_eq q.owner client && not (is_handed made id)) (requests made) w at in
        let place : w.0 ≡ 1 + is.0 = is.1 in
        let own : w.0 ≡ r.id = ap (λ (z : Request). z.id) same in
        let number : r.id ≡ suc is.0 = omega (arith, place, own) in (
          w.1,
          ap (request_at (requests made)) number ∙ is.2,
          eqb-true w.1.owner client (and_parts (nat_eq w.1.owner client) (not (is_handed made w.0)) is.3).0,
          ap (λ (z : Request). z.rpc) same,
          ap (λ (z : Request). z.context) same,
          ap (λ (z : Request). z.input) same,
        )

-- ---- who made a request

-- a request of one more call
request-more : (rs : List Requested) (o : Option Requested) (id : ℕ) (q : Requested) → request_at (rs ++ cons_option o []) id ≡ Some q → (request_at rs id ≡ Some q) ⊎ ((id ≡ length rs + 1) × (o ≡ Some q))
request-more rs o zero q e = absurd (none-some q e)
request-more [] None (suc zero) q e = absurd (none-some q e)
request-more [] None (suc (suc i)) q e = absurd (none-some q e)
request-more [] (Some x) (suc zero) q e = inr (refl, e)
request-more [] (Some x) (suc (suc i)) q e = absurd (none-some q e)
request-more (r ∷ rs) o (suc zero) q e = inl e
request-more (r ∷ rs) o (suc (suc i)) q e = elim (request-more rs o (suc i) q e) [
  | inl old ↦ inl old
  | inr w ↦ let number : suc i ≡ length rs + 1 = w.0 in inr (omega (arith, number), w.1)
]

-- the call that made it
requested_by : (made : List Made) (client : ℕ) (call : RpcCall) (q : Requested) → requested client (sent_to made call) call ≡ Some q → (call ≡ rpcs.Invoke q.rpc q.context q.input) × (owner_of made q.rpc q.context ≡ Some q.owner)
requested_by made client (rpcs.Invoke rpc context input) q = by (owner_of made rpc context) refl
  where
    by : (o : Option ℕ) → owner_of made rpc context ≡ o → requested client o (rpcs.Invoke rpc context input) ≡ Some q → (rpcs.Invoke rpc context input ≡ rpcs.Invoke q.rpc q.context q.input) × (owner_of made q.rpc q.context ≡ Some q.owner)
    by None at e = absurd (none-some q e)
    by (Some owner) at e =
        let x : Requested = record { by = client; owner = owner; rpc = rpc; context = context; input = input } in
        let same : x ≡ q = same_Some x q e in
        ((λ i. rpcs.Invoke (same i).rpc (same i).context (same i).input), (λ i. owner_of made (sym same i).rpc (sym same i).context) ∙ at ∙ ap (λ (z : Requested). Some z.owner) same)
requested_by made client call q = λ e. absurd (none-some q e)

-- the shared call of the router's call
shared_invoke : (call : Call) (rpc : ℕ) (context : Option (List Step)) (input : List Row) → rpc_call call ≡ Some (rpcs.Invoke rpc context input) → call ≡ Invoke rpc context input
shared_invoke (Invoke k c i) rpc context input e = cc
shared_invoke call rpc context input e = cc

shared_answer : (call : Call) (id : ℕ) (rows : List Row) → rpc_call call ≡ Some (rpcs.Answer id rows) → call ≡ Answer id rows
shared_answer (Answer k r) id rows e = cc
shared_answer call id rows e = cc

-- the rows of one more answer
first_or : {X : Type 0} (a b : Option X) (x : X) → option_or a b ≡ Some x → (a ≡ Some x) ⊎ (b ≡ Some x)
first_or None b x e = inr e
first_or (Some y) b x e = inl e

answers_by : (call : RpcCall) (reply : RpcReply) (id : ℕ) (rows : List Row) → answers call reply id ≡ Some rows → (call ≡ rpcs.Answer id rows) × (reply ≡ rpc_replies.Accepted)
answers_by (rpcs.Answer at given) rpc_replies.Accepted id rows = by (nat_eq at id) refl
  where
    by : (b : Bool) → nat_eq at id ≡ b → (if b then Some given else None) ≡ Some rows → (rpcs.Answer at given ≡ rpcs.Answer id rows) × (rpc_replies.Accepted ≡ rpc_replies.Accepted)
    by true own e = ((λ i. rpcs.Answer (eqb-true at id own i) (same_Some given rows e i)), refl)
    by false own e = absurd (none-some rows e)
answers_by call reply id rows = λ e. absurd (none-some rows e)

has_output : (own : Bool) (o : Option (List Row)) (id : ℕ) (rows : List Row) → (if own then output o else rpc_replies.Refused (rpc_faults.NoCall id)) ≡ rpc_replies.Output rows → o ≡ Some rows
has_output true (Some given) id rows e = cc
has_output true None id rows e = cc
has_output false o id rows e = cc

module _ (world : List Domain) (h : List Answered) (are : AreAnswered world h) where
  -- an entry before the place made the request
  abbrev IsMade : ℕ → ℕ → Requested → Type 0
  IsMade n id q =
      (j : ℕ) × (b : Answered) × (j < n) × (slice_get h j ≡ Some b) × (b.entry.call ≡ Invoke q.rpc q.context q.input) × (b.reply ≡ said.CallMade id)
      × (owner_of (routed (take j h)) q.rpc q.context ≡ Some q.owner)

  later : (n id : ℕ) (q : Requested) → IsMade n id q → IsMade (suc n) id q
  later n id q is = let low : is.0 < n = is.2 in (is.0, is.1, omega (arith, low), is.3, is.4, is.5, is.6)

  is_made : (n id : ℕ) (q : Requested) → request_at (requests (routed (take n h))) id ≡ Some q → IsMade n id q
  is_made zero zero q e = absurd (none-some q e)
  is_made zero (suc id) q e = absurd (none-some q e)
  is_made (suc n) id q e = elim (there_or_not h n (slice_get h n) refl) [
    | inr same ↦ later n id q (is_made n id q (ap (λ (b : List Answered). request_at (requests (routed b)) id) (sym same) ∙ e))
    | inl w ↦
        let a : Answered = w.0 in
        let made : List Made = routed (take n h) in
        let now : routed (take (suc n) h) ≡ grown made (rpc_asked a.entry.client a.entry.call) = ap routed (take_next n h a w.1) ∙ routed-more (take n h) a in
        elim (rpc_call a.entry.call) as (λ (o : Option RpcCall). rpc_call a.entry.call ≡ o → request_at (requests (grown made (option_map (λ c. record { client = a.entry.client; call = c }) o))) id ≡ Some q → IsMade (suc n) id q) [
          | None ↦ λ is old. later n id q (is_made n id q old)
          | Some c ↦ λ is new.
              elim (request-more (requests made) (requested a.entry.client (sent_to made c) c) id q
              (ap (λ (rs : List Requested). request_at rs id) (sym (requests-more made (with_reply made a.entry.client c))) ∙ new)) [
                | inl old ↦ later n id q (is_made n id q old)
                | inr x ↦
                    let found = requested_by made a.entry.client c q x.1 in
                    let call : a.entry.call ≡ Invoke q.rpc q.context q.input = shared_invoke a.entry.call q.rpc q.context q.input (is ∙ ap Some found.0) in
                    let given : reply_to world (take n h) a.entry.client (Invoke q.rpc q.context q.input) ≡ said.CallMade (length (requests made) + 1) =
                    ap (λ (o : Option ℕ). rpc_reply q.rpc (if is_some o then rpc_replies.CallMade (length (requests made) + 1) else rpc_replies.Refused (rpc_faults.NoProvider q.rpc))) found.1 in
                    (n, a, omega arith, w.1, call, are n a w.1 ∙ ap (reply_to world (take n h) a.entry.client) call ∙ given ∙ ap said.CallMade (sym x.0), found.1)
              ]
        ] refl (ap (λ (m : List Made). request_at (requests m) id) (sym now) ∙ e)
  ]

  -- ---- the client that receives one

  -- the router's answer
  handing : (i : ℕ) (a : Answered) (r : Request) → slice_get h i ≡ Some a → a.entry.call ≡ NextCall → a.reply ≡ said.Request r → routes (routed (take i h)) a.entry.client rpcs.NextCall ≡ rpc_replies.Handed r
  handing i a r at call reply =
      from-request 0 (routes (routed (take i h)) a.entry.client rpcs.NextCall) r (ap (reply_to world (take i h) a.entry.client) (sym call) ∙ sym (are i a at) ∙ reply)

  pub to_its_provider : (i : ℕ) (a : Answered) (r : Request) → slice_get h i ≡ Some a → a.entry.call ≡ NextCall → a.reply ≡ said.Request r
      → (j : ℕ) × (b : Answered) × (j < i) × (slice_get h j ≡ Some b) × (b.entry.call ≡ Invoke r.rpc r.context r.input) × (b.reply ≡ said.CallMade r.id) × (owner_of (routed (take j h)) r.rpc r.context ≡ Some a.entry.client)
  to_its_provider i a r at call reply =
      let found = handed_of (routed (take i h)) a.entry.client r (handing i a r at call reply) in
      let q : Requested = found.0 in
      let is = is_made i r.id q found.1 in (
        is.0,
        is.1,
        is.2,
        is.3,
        is.4 ∙ (λ i. Invoke (found.3 i) (found.4 i) (found.5 i)),
        is.5,
        (λ i. owner_of (routed (take is.0 h)) (sym found.3 i) (sym found.4 i)) ∙ is.6 ∙ ap Some found.2,
      )

  -- after the entry the request is delivered
  is_out : (i : ℕ) (a : Answered) (r : Request) → slice_get h i ≡ Some a → a.entry.call ≡ NextCall → a.reply ≡ said.Request r → is_handed (routed (take (suc i) h)) r.id ≡ true
  is_out i a r at call reply =
      let made : List Made = routed (take i h) in
      let asked : rpc_asked a.entry.client a.entry.call ≡ Some (record { client = a.entry.client; call = rpcs.NextCall }) = ap (rpc_asked a.entry.client) call in
      let now : routed (take (suc i) h) ≡ made ++ with_reply made a.entry.client rpcs.NextCall ∷ [] = ap routed (take_next i h a at) ∙ routed-more (take i h) a ∙ ap (grown made) asked in
      let itself : nat_eq r.id r.id ≡ true = eq-eqb r.id r.id refl in
      ap (λ (m : List Made). is_handed m r.id) now ∙ handed-more made (with_reply made a.entry.client rpcs.NextCall) r.id
      ∙ ap (λ (x : RpcReply). is_handed made r.id || hands x r.id) (handing i a r at call reply)
      ∙ ap (λ b. is_handed made r.id || b) itself ∙ or_true (is_handed made r.id)
    where
      or_true : (b : Bool) → (b || true) ≡ true
      or_true true = refl
      or_true false = refl

  still_out : (id n m : ℕ) → n ≤ m → is_handed (routed (take n h)) id ≡ true → is_handed (routed (take m h)) id ≡ true
  still_out id n m le = kept_later (λ made. is_handed made id ≡ true) (λ made asked was. handed-more made (with_reply made asked.client asked.call) id ∙ ap (λ b. b || hands (routes made asked.client asked.call) id) was) h n m le

  not_again : (i j : ℕ) (a b : Answered) (r q : Request) → i < j → slice_get h i ≡ Some a → a.entry.call ≡ NextCall → a.reply ≡ said.Request r → slice_get h j ≡ Some b → b.entry.call ≡ NextCall → b.reply ≡ said.Request q
      → r.id ≡ q.id → ⊥
  not_again i j a b r q before at call reply there calls replies same =
      let out : is_handed (routed (take j h)) r.id ≡ true = still_out r.id (suc i) j (omega (arith, before)) (is_out i a r at call reply) in
      let free : is_handed (routed (take j h)) q.id ≡ false = handed-once (routed (take j h)) b.entry.client q (handing j b q there calls replies) in
      let clash : true ≡ false = sym out ∙ ap (is_handed (routed (take j h))) same ∙ free in
      cc

  pub once : (i j : ℕ) (a b : Answered) (r q : Request) → slice_get h i ≡ Some a → a.entry.call ≡ NextCall → a.reply ≡ said.Request r → slice_get h j ≡ Some b → b.entry.call ≡ NextCall → b.reply ≡ said.Request q
      → r.id ≡ q.id → i ≡ j
  once i j a b r q at call reply there calls replies same = elim (cases_lt i j) [
    | inl before ↦ absurd (not_again i j a b r q before at call reply there calls replies same)
    | inr le ↦ elim (cases_lt j i) [
      | inl behind ↦ absurd (not_again j i b a q r behind there calls replies at call reply (sym same))
      | inr ge ↦ omega (arith, le, ge)
    ]
  ]

  -- ---- answers

  abbrev IsAnswered : ℕ → ℕ → List Row → Type 0
  IsAnswered n id rows = (j : ℕ) × (b : Answered) × (j < n) × (slice_get h j ≡ Some b) × (b.entry.call ≡ Answer id rows) × (b.reply ≡ said.Accepted)

  answered_later : (n id : ℕ) (rows : List Row) → IsAnswered n id rows → IsAnswered (suc n) id rows
  answered_later n id rows is = let low : is.0 < n = is.2 in (is.0, is.1, omega (arith, low), is.3, is.4, is.5)

  is_answered : (n id : ℕ) (rows : List Row) → answer_to (routed (take n h)) id ≡ Some rows → IsAnswered n id rows
  is_answered zero id rows e = absurd (none-some rows e)
  is_answered (suc n) id rows e = elim (there_or_not h n (slice_get h n) refl) [
    | inr same ↦ answered_later n id rows (is_answered n id rows (ap (λ (b : List Answered). answer_to (routed b) id) (sym same) ∙ e))
    | inl w ↦
        let a : Answered = w.0 in
        let made : List Made = routed (take n h) in
        let now : routed (take (suc n) h) ≡ grown made (rpc_asked a.entry.client a.entry.call) = ap routed (take_next n h a w.1) ∙ routed-more (take n h) a in
        elim (rpc_call a.entry.call) as (λ (o : Option RpcCall). rpc_call a.entry.call ≡ o → answer_to (grown made (option_map (λ c. record { client = a.entry.client; call = c }) o)) id ≡ Some rows → IsAnswered (suc n) id rows) [
          | None ↦ λ is old. answered_later n id rows (is_answered n id rows old)
          | Some c ↦ λ is new.
              elim (first_or (answer_to made id) (answers c (routes made a.entry.client c) id) rows (sym (answer-more made (with_reply made a.entry.client c) id) ∙ new)) [
                | inl old ↦ answered_later n id rows (is_answered n id rows old)
                | inr x ↦
                    let found = answers_by c (routes made a.entry.client c) id rows x in
                    let call : a.entry.call ≡ Answer id rows = shared_answer a.entry.call id rows (is ∙ ap Some found.0) in
                    let good : routes made a.entry.client (rpcs.Answer id rows) ≡ rpc_replies.Accepted = ap (routes made a.entry.client) (sym found.0) ∙ found.1 in
                    (n, a, omega arith, w.1, call, are n a w.1 ∙ ap (reply_to world (take n h) a.entry.client) call ∙ ap (rpc_reply 0) good)
              ]
        ] refl (ap (λ (m : List Made). answer_to m id) (sym now) ∙ e)
  ]

  collecting : (i id : ℕ) (a : Answered) → slice_get h i ≡ Some a → a.entry.call ≡ Collect id → a.reply ≡ rpc_reply (unwrap_or (rpc_of (take i h) id) 0) (routes (routed (take i h)) a.entry.client (rpcs.Collect id))
  collecting i id a at call = are i a at ∙ ap (reply_to world (take i h) a.entry.client) call

  pub as_given : (i id : ℕ) (a : Answered) (rpc : ℕ) (rows : List Row) → slice_get h i ≡ Some a → a.entry.call ≡ Collect id → a.reply ≡ said.Output rpc rows → IsAnswered i id rows
  as_given i id a rpc rows at call reply =
      let made : List Made = routed (take i h) in
      let out : routes made a.entry.client (rpcs.Collect id) ≡ rpc_replies.Output rows =
      from-output (unwrap_or (rpc_of (take i h) id) 0) (routes made a.entry.client (rpcs.Collect id)) rpc rows (sym (collecting i id a at call) ∙ reply) in
      is_answered i id rows (has_output (is_request made id (λ r. nat_eq r.by a.entry.client)) (answer_to made id) id rows out)

  pub collected : (i j id : ℕ) (a b : Answered) (rows : List Row) → slice_get h j ≡ Some b → b.entry.call ≡ Answer id rows → b.reply ≡ said.Accepted → j < i → slice_get h i ≡ Some a → a.entry.call ≡ Collect id
      → (a.reply ≡ said.Refused (NoCall id)) ⊎ ((rpc : ℕ) × (a.reply ≡ said.Output rpc rows))
  collected i j id a b rows there answers_it accepted before at call =
      let earlier : List Made = routed (take j h) in
      let good : routes earlier b.entry.client (rpcs.Answer id rows) ≡ rpc_replies.Accepted =
      from-accepted 0 (routes earlier b.entry.client (rpcs.Answer id rows)) (ap (reply_to world (take j h) b.entry.client) (sym answers_it) ∙ sym (are j b there) ∙ accepted) in
      let asked : rpc_asked b.entry.client b.entry.call ≡ Some (record { client = b.entry.client; call = rpcs.Answer id rows }) = ap (rpc_asked b.entry.client) answers_it in
      let now : routed (take (suc j) h) ≡ earlier ++ record { client = b.entry.client; call = rpcs.Answer id rows; reply = rpc_replies.Accepted; owner = None } ∷ [] =
      ap routed (take_next j h b there) ∙ routed-more (take j h) b ∙ ap (grown earlier) asked
      ∙ ap (λ (x : RpcReply). earlier ++ record { client = b.entry.client; call = rpcs.Answer id rows; reply = x; owner = None } ∷ []) good in
      let told : answer_to (routed (take (suc j) h)) id ≡ Some rows = ap (λ (m : List Made). answer_to m id) now ∙ answered-as-given earlier b.entry.client id rows good in
      let still : answer_to (routed (take i h)) id ≡ Some rows =
      kept_later (λ made. answer_to made id ≡ Some rows) (λ made x was. answers-stay made (with_reply made x.client x.call ∷ []) id rows was) h (suc j) i (omega (arith, before)) told in
      elim (is_request (routed (take i h)) id (λ r. nat_eq r.by a.entry.client)) as (λ c.
      a.reply ≡ rpc_reply (unwrap_or (rpc_of (take i h) id) 0) (if c then output (answer_to (routed (take i h)) id) else rpc_replies.Refused (rpc_faults.NoCall id))
      → (a.reply ≡ said.Refused (NoCall id)) ⊎ ((rpc : ℕ) × (a.reply ≡ said.Output rpc rows))) [
        | true ↦ λ e. inr (unwrap_or (rpc_of (take i h) id) 0, e ∙ ap (λ (o : Option (List Row)). rpc_reply (unwrap_or (rpc_of (take i h) id) 0) (output o)) still)
        | false ↦ λ e. inl e
      ] (collecting i id a at call)

pub handed-to-provider : HandedToItsProvider
handed-to-provider world log = to_its_provider world (history world log) (are_answered world log)

pub handed-once-in-log : HandedOnceInALog
handed-once-in-log world log = once world (history world log) (are_answered world log)

pub collected-as-given : CollectedAsGiven
collected-as-given world log = as_given world (history world log) (are_answered world log)

pub answers-collected : AnswersAreCollected
answers-collected world log = collected world (history world log) (are_answered world log)
