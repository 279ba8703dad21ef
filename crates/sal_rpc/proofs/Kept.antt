-- The routes stay those of the calls when one more is made.
use Rattle.std.proofs.Common.{◌≡◌, ℕ, zero, suc, ◌+◌, ◌<◌, ◌≤◌, Bool, true, false, not, ◌&&◌, ◌||◌, List, [], ◌∷◌, ◌++◌, Option, Some, None, length, map, drop, refl, ap, sym, ◌∙◌, subst, arith, append-nil, length-append, if◌then◌else◌, nat_eq, inl, inr}
use Rattle.std.specs.Prelude.{is_some, slice_get}
use Rattle.std.specs.BTreeMap.{is_at}
use Rattle.std.specs.List.{cons_option}
use Rattle.std.specs.Option.{option_and_then, option_map, option_map_or, option_or}
use Rattle.std.proofs.lemmas.Bool.Decides.{nat_tests}
use Rattle.std.proofs.lemmas.List.{map-append}
use Rattle.std.proofs.lemmas.List.Sums.{fold-append}
use Rattle.sal_types.specs.declared.value.Step.{Step}
use Rattle.sal_types.specs.declared.row.Row.{Row}
use Rattle.sal_rpc.specs.declared.call.Request.{Request}
use Rattle.sal_rpc.specs.declared.call.RpcCall.{RpcCall}
use Rattle.sal_rpc.specs.declared.call.RpcCall.TheVariants.{Provide, Withdraw, Invoke, NextCall, Answer, Collect}
use Rattle.sal_rpc.specs.declared.call.RpcFault.TheVariants.{NoProvider, ProviderTaken, NoCall}
use Rattle.sal_rpc.specs.declared.call.RpcReply.{RpcReply}
use Rattle.sal_rpc.specs.declared.call.RpcReply.TheVariants.{Accepted, CallMade, Handed, Nothing, Refused}
use Rattle.sal_rpc.specs.declared.routes.Sent.{Sent}
use Rattle.sal_rpc.specs.declared.routes.Service.{Service}
use Rattle.sal_rpc.specs.Answers.{Gives, Makes}
use Rattle.sal_rpc.specs.Routes.{Ends, IsKept, IsSent, Routes, answered, ends_in, ends_of, hand, is_by, is_open, next_reply, owner_in, provider_in, queue_in, request_of, sent_at, sent_with, service, service_cmp}
use Rattle.sal_rpc.specs.Routing.{Asked, Made, Registration, Requested, answer_to, answers, gives, handed, hands, is_handed, is_request, live, made_of, make, output, owner_of, provider, queue, reply_to, requested, requests, sent_to, waiting_from}
use Rattle.sal_rpc.proofs.Requested.{answer-more, handed-more, live-more, requests-more, or-false}
use Rattle.sal_rpc.proofs.Sending.{as-many, get-map, get-more, get-within, sent-ends, sent-get, sent-length, written-from}
use Rattle.sal_rpc.proofs.Services.{picked, picked-more, picked-without}
use Rattle.sal_rpc.proofs.Waiting.{but, but-first, but-other, first-high, first-low, waiting-but, waiting-more}
use Rattle.sal_types.proofs.Handy.{and-true}

or-none : {X : Type 0} (o : Option X) → option_or o None ≡ o
or-none None = refl
or-none (Some x) = refl

pub makes : (old new : Routes) (client : ℕ) (call : RpcCall) (reply : RpcReply) → ((made : List Made) → IsKept made old → reply_to made client call ≡ reply) → ((made : List Made) → IsKept made old → IsKept (made ++ record { client = client; call = call; reply = reply; owner = sent_to made call } ∷ []) new) → Makes old new client call reply
makes old new client call reply answer longer = record {
  longer = λ calls kept. subst (λ (made : List Made). IsKept made new) (sym (one_more calls kept)) (longer (made_of calls) kept);
  answer = λ calls kept. answer (made_of calls) kept;
}
  where
    one_more : (calls : List Asked) → IsKept (made_of calls) old → made_of (calls ++ record { client = client; call = call } ∷ []) ≡ made_of calls ++ record { client = client; call = call; reply = reply; owner = sent_to (made_of calls) call } ∷ []
    one_more calls kept =
        fold-append make [] calls (record { client = client; call = call } ∷ [])
        ∙ ap (λ (r : RpcReply). made_of calls ++ record { client = client; call = call; reply = r; owner = sent_to (made_of calls) call } ∷ []) (answer (made_of calls) kept)

-- ---- a call that makes, hands out and answers no request

module _ (made : List Made) (m : Made) (no_request : requested m.client m.owner m.call ≡ None) where
  pub requests-same : requests (made ++ m ∷ []) ≡ requests made
  requests-same = requests-more made m ∙ ap (λ (o : Option Requested). requests made ++ cons_option o []) no_request ∙ append-nil (requests made)

module _ (made : List Made) (m : Made) where
  pub handed-same : (id : ℕ) → hands m.reply id ≡ false → is_handed (made ++ m ∷ []) id ≡ is_handed made id
  handed-same id none = handed-more made m id ∙ ap (λ b. is_handed made id || b) none ∙ or-false (is_handed made id)

  pub answer-same : (id : ℕ) → answers m.call m.reply id ≡ None → answer_to (made ++ m ∷ []) id ≡ answer_to made id
  answer-same id none = answer-more made m id ∙ ap (option_or (answer_to made id)) none ∙ or-none (answer_to made id)

pub rest-kept : (made : List Made) (old new : Routes) (m : Made) → new.requests ≡ old.requests → ((c : ℕ) → queue_in new.queues c ≡ queue_in old.queues c) → requested m.client m.owner m.call ≡ None → ((id : ℕ) → hands m.reply id ≡ false) → ((id : ℕ) → answers m.call m.reply id ≡ None)
    → ((rpc : ℕ) (context : Option (List Step)) → provider_in new.providers (service rpc context) ≡ provider (made ++ m ∷ []) rpc context) → IsKept made old → IsKept (made ++ m ∷ []) new
rest-kept made old new m same_requests same_queues no_request no_hand no_answer provided kept =
    let asked : requests (made ++ m ∷ []) ≡ requests made = requests-same made m no_request in
    let out : (id : ℕ) → is_handed (made ++ m ∷ []) id ≡ is_handed made id = λ id. handed-same made m id (no_hand id) in
    let told : (id : ℕ) → answer_to (made ++ m ∷ []) id ≡ answer_to made id = λ id. answer-same made m id (no_answer id) in
    record {
      provided = provided;
      ends = ap (map ends_in) same_requests ∙ kept.ends ∙ sym (ap (map ends_of) asked);
      sent = λ i s at. let was = kept.sent i s (ap (λ (l : List Sent). slice_get l i) (sym same_requests) ∙ at) in record { handed = was.handed ∙ sym (out (suc i)); answer = was.answer ∙ sym (told (suc i)) };
      queued = λ c. same_queues c ∙ kept.queued c ∙ (λ i. map request_of (waiting_from 1 (λ id r. nat_eq r.owner c && not (sym (out id) i)) (sym asked i)));
      unhanded = λ id past. out id ∙ kept.unhanded id (subst (λ (l : List Sent). length l < id) same_requests past);
      unanswered = λ id past. told id ∙ kept.unanswered id (subst (λ (l : List Sent). length l < id) same_requests past);
    }

pub quiet : (made : List Made) (r : Routes) (m : Made) → live (made ++ m ∷ []) ≡ live made → requested m.client m.owner m.call ≡ None → ((id : ℕ) → hands m.reply id ≡ false) → ((id : ℕ) → answers m.call m.reply id ≡ None) → IsKept made r → IsKept (made ++ m ∷ []) r
quiet made r m same no_request no_hand no_answer kept = rest-kept made r r m refl (λ _. refl) no_request no_hand no_answer
    (λ rpc context. kept.provided rpc context ∙ ap (picked (service rpc context)) (sym same)) kept

owner-is : (made : List Made) (r : Routes) → IsKept made r → (rpc : ℕ) (context : Option (List Step)) → owner_of made rpc context ≡ owner_in r.providers (service rpc context)
owner-is made r kept rpc context = λ i. option_or (sym (kept.provided rpc context) i) (sym (kept.provided rpc None) i)

-- ---- registrations

pub provide_made : (old new : Routes) (client rpc : ℕ) (context : Option (List Step)) → new.requests ≡ old.requests → new.queues ≡ old.queues → provider_in old.providers (service rpc context) ≡ None
    → ((s : Service) → provider_in new.providers s ≡ (if is_at (service_cmp (service rpc context)) s then Some client else provider_in old.providers s)) → Makes old new client (Provide rpc context) Accepted
provide_made old new client rpc context same_requests same_queues free puts = makes old new client (Provide rpc context) Accepted
    (λ made kept. ap (λ o. if is_some o then Refused (ProviderTaken rpc) else Accepted) (sym (kept.provided rpc context) ∙ free))
    (λ made kept.
    let m : Made = record { client = client; call = Provide rpc context; reply = Accepted; owner = None } in
    let reg : Registration = record { client = client; rpc = rpc; context = context } in
    rest-kept made old new m same_requests (λ c. ap (λ (q : List (ℕ × List Request)). queue_in q c) same_queues) refl (λ _. refl) (λ _. refl)
    (λ q c. puts (service q c) ∙ ap (λ o. if is_at (service_cmp (service rpc context)) (service q c) then Some client else o) (kept.provided q c)
    ∙ sym (picked-more (service q c) (live made) reg (sym (kept.provided rpc context) ∙ free)) ∙ ap (picked (service q c)) (sym (live-more made m)))
    kept)

pub provide_refused : (r : Routes) (client rpc : ℕ) (context : Option (List Step)) → is_some (provider_in r.providers (service rpc context)) ≡ true → Makes r r client (Provide rpc context) (Refused (ProviderTaken rpc))
provide_refused r client rpc context taken = makes r r client (Provide rpc context) (Refused (ProviderTaken rpc))
    (λ made kept. ap (λ o. if is_some o then Refused (ProviderTaken rpc) else Accepted) (sym (kept.provided rpc context)) ∙ ap (λ b. if b then Refused (ProviderTaken rpc) else Accepted) taken)
    (λ made kept. let m : Made = record { client = client; call = Provide rpc context; reply = Refused (ProviderTaken rpc); owner = None } in quiet made r m (live-more made m) refl (λ _. refl) (λ _. refl) kept)

pub withdraw_made : (old new : Routes) (client rpc : ℕ) (context : Option (List Step)) → new.requests ≡ old.requests → new.queues ≡ old.queues → provider_in old.providers (service rpc context) ≡ Some client
    → ((s : Service) → provider_in new.providers s ≡ (if is_at (service_cmp (service rpc context)) s then None else provider_in old.providers s)) → Makes old new client (Withdraw rpc context) Accepted
withdraw_made old new client rpc context same_requests same_queues own takes = makes old new client (Withdraw rpc context) Accepted
    (λ made kept. let mine : nat_eq client client ≡ true = grind (arith, nat_tests) in ap (λ o. if option_map_or (λ c. nat_eq c client) o false then Accepted else Refused (NoProvider rpc)) (sym (kept.provided rpc context) ∙ own) ∙ ap (λ b. if b then Accepted else Refused (NoProvider rpc)) mine)
    (λ made kept.
    let m : Made = record { client = client; call = Withdraw rpc context; reply = Accepted; owner = None } in
    rest-kept made old new m same_requests (λ c. ap (λ (q : List (ℕ × List Request)). queue_in q c) same_queues) refl (λ _. refl) (λ _. refl)
    (λ q c. takes (service q c) ∙ ap (λ o. if is_at (service_cmp (service rpc context)) (service q c) then None else o) (kept.provided q c)
    ∙ sym (picked-without (service q c) (service rpc context) (live made)) ∙ ap (picked (service q c)) (sym (live-more made m)))
    kept)

pub withdraw_refused : (r : Routes) (client rpc : ℕ) (context : Option (List Step)) → option_map_or (λ c. nat_eq c client) (provider_in r.providers (service rpc context)) false ≡ false → Makes r r client (Withdraw rpc context) (Refused (NoProvider rpc))
withdraw_refused r client rpc context other = makes r r client (Withdraw rpc context) (Refused (NoProvider rpc))
    (λ made kept. ap (λ o. if option_map_or (λ c. nat_eq c client) o false then Accepted else Refused (NoProvider rpc)) (sym (kept.provided rpc context)) ∙ ap (λ b. if b then Accepted else Refused (NoProvider rpc)) other)
    (λ made kept. let m : Made = record { client = client; call = Withdraw rpc context; reply = Refused (NoProvider rpc); owner = None } in quiet made r m (live-more made m) refl (λ _. refl) (λ _. refl) kept)

-- ---- a request is made

request-tail : (b : Bool) (k id : ℕ) (q : Requested) → k ≡ id → map request_of (if b then (k, q) ∷ [] else []) ≡ (if b then record { id = id; rpc = q.rpc; context = q.context; input = q.input } ∷ [] else [])
request-tail true k id q e = ap (λ n. request_of (n, q) ∷ []) e
request-tail false k id q e = refl

put-last : (b : Bool) (l : List Request) (x : Request) → (if b then l ++ x ∷ [] else l) ≡ l ++ (if b then x ∷ [] else [])
put-last true l x = refl
put-last false l x = sym (append-nil l)

pub invoke_made : (old new : Routes) (client rpc : ℕ) (context : Option (List Step)) (input : List Row) (owner : ℕ) → owner_in old.providers (service rpc context) ≡ Some owner → new.providers ≡ old.providers
    → new.requests ≡ old.requests ++ record { by = client; owner = owner; handed = false; answer = None } ∷ []
    → ((c : ℕ) → queue_in new.queues c ≡ (if nat_eq owner c then queue_in old.queues c ++ record { id = length old.requests + 1; rpc = rpc; context = context; input = input } ∷ [] else queue_in old.queues c))
    → Makes old new client (Invoke rpc context input) (CallMade (length old.requests + 1))
invoke_made old new client rpc context input owner goes same_providers grows sends = makes old new client (Invoke rpc context input) (CallMade (length old.requests + 1))
    (λ made kept. ap (λ o. if is_some o then CallMade (length (requests made) + 1) else Refused (NoProvider rpc)) (owner-is made old kept rpc context ∙ goes) ∙ ap (λ n. CallMade (n + 1)) (sym (as-many old.requests (requests made) kept.ends)))
    (λ made kept.
    let m : Made = record { client = client; call = Invoke rpc context input; reply = CallMade (length old.requests + 1); owner = owner_of made rpc context } in
    let fresh : Sent = record { by = client; owner = owner; handed = false; answer = None } in
    let q : Requested = record { by = client; owner = owner; rpc = rpc; context = context; input = input } in
    let x : Request = record { id = length old.requests + 1; rpc = rpc; context = context; input = input } in
    let e : Ends = record { by = client; owner = owner } in
    let asked : requests (made ++ m ∷ []) ≡ requests made ++ q ∷ [] = requests-more made m ∙ ap (λ o. requests made ++ cons_option (requested client o (Invoke rpc context input)) []) (owner-is made old kept rpc context ∙ goes) in
    let out : (id : ℕ) → is_handed (made ++ m ∷ []) id ≡ is_handed made id = λ id. handed-same made m id refl in
    let told : (id : ℕ) → answer_to (made ++ m ∷ []) id ≡ answer_to made id = λ id. answer-same made m id refl in
    let long : length old.requests ≡ length (requests made) = as-many old.requests (requests made) kept.ends in
    let T : ℕ → ℕ → Requested → Bool = λ c id r. nat_eq r.owner c && not (is_handed made id) in
    let waits : (c : ℕ) → nat_eq owner c && not (is_handed made (1 + length (requests made))) ≡ nat_eq owner c =
    λ c. ap (λ b. nat_eq owner c && not b) (kept.unhanded (1 + length (requests made)) (omega (arith, long))) ∙ and-true (nat_eq owner c) in
    record {
      provided = λ p c. ap (λ ps. provider_in ps (service p c)) same_providers ∙ kept.provided p c ∙ ap (picked (service p c)) (sym (live-more made m));
      ends = ap (map ends_in) grows ∙ map-append ends_in old.requests (fresh ∷ []) ∙ ap (λ l. l ++ e ∷ []) kept.ends ∙ sym (map-append ends_of (requests made) (q ∷ [])) ∙ sym (ap (map ends_of) asked);
      sent = λ i s at. elim (get-more old.requests fresh i s (ap (λ (l : List Sent). slice_get l i) (sym grows) ∙ at)) [
        | inl h ↦ (let was = kept.sent i s h in record { handed = was.handed ∙ sym (out (suc i)); answer = was.answer ∙ sym (told (suc i)) })
        | inr h ↦ (let here : i ≡ length old.requests = h.0 in let past : length old.requests < suc i = omega (arith, here) in
            subst (λ (z : Sent). IsSent (made ++ m ∷ []) (suc i) z) h.1 (record { handed = sym (out (suc i) ∙ kept.unhanded (suc i) past); answer = sym (told (suc i) ∙ kept.unanswered (suc i) past) }))
      ];
      queued = λ c. sends c ∙ put-last (nat_eq owner c) (queue_in old.queues c) x ∙ ap (λ l. l ++ (if nat_eq owner c then x ∷ [] else [])) (kept.queued c)
          ∙ ap (λ l. map request_of (queue made c) ++ l) (sym (request-tail (nat_eq owner c) (1 + length (requests made)) (length old.requests + 1) q (omega (arith, long))))
          ∙ ap (λ b. map request_of (queue made c) ++ map request_of (if b then (1 + length (requests made), q) ∷ [] else [])) (sym (waits c))
          ∙ sym (map-append request_of (queue made c) _)
          ∙ ap (map request_of) (sym (waiting-more 1 (T c) (requests made) q))
          ∙ (λ i. map request_of (waiting_from 1 (λ id r. nat_eq r.owner c && not (sym (out id) i)) (sym asked i)));
      unhanded = λ id past. out id ∙ kept.unhanded id (let more : length old.requests + 1 < id = subst (λ (n : ℕ). n < id) (ap length grows ∙ length-append old.requests (fresh ∷ [])) past in omega (arith, more));
      unanswered = λ id past. told id ∙ kept.unanswered id (let more : length old.requests + 1 < id = subst (λ (n : ℕ). n < id) (ap length grows ∙ length-append old.requests (fresh ∷ [])) past in omega (arith, more));
    })

pub invoke_refused : (r : Routes) (client rpc : ℕ) (context : Option (List Step)) (input : List Row) → owner_in r.providers (service rpc context) ≡ None → Makes r r client (Invoke rpc context input) (Refused (NoProvider rpc))
invoke_refused r client rpc context input nobody = makes r r client (Invoke rpc context input) (Refused (NoProvider rpc))
    (λ made kept. ap (λ o. if is_some o then CallMade (length (requests made) + 1) else Refused (NoProvider rpc)) (owner-is made r kept rpc context ∙ nobody))
    (λ made kept.
    let m : Made = record { client = client; call = Invoke rpc context input; reply = Refused (NoProvider rpc); owner = owner_of made rpc context } in
    quiet made r m (live-more made m) (ap (λ o. requested client o (Invoke rpc context input)) (owner-is made r kept rpc context ∙ nobody)) (λ _. refl) (λ _. refl) kept)

-- ---- a request is handed out

handed-of : (o : Option (ℕ × Requested)) → handed o ≡ next_reply (option_map request_of o)
handed-of None = refl
handed-of (Some w) = refl

next-is : (made : List Made) (r : Routes) → IsKept made r → (client : ℕ) → handed (slice_get (queue made client) 0) ≡ next_reply (slice_get (queue_in r.queues client) 0)
next-is made r kept client = handed-of (slice_get (queue made client) 0) ∙ ap next_reply (sym (get-map request_of (queue made client) 0) ∙ ap (λ (l : List Request). slice_get l 0) (sym (kept.queued client)))

some-of : (o : Option (ℕ × Requested)) (x : Request) → option_map request_of o ≡ Some x → (w : ℕ × Requested) × (o ≡ Some w) × (request_of w ≡ x)
some-of None x e = cc
some-of (Some w) x e = (w, refl, let same : request_of w ≡ x = cc in same)

map-drop : (l : List (ℕ × Requested)) → map request_of (drop 1 l) ≡ drop 1 (map request_of l)
map-drop [] = refl
map-drop (w ∷ l) = refl

neither : (a h e : Bool) → (a && not (h || e)) ≡ ((a && not h) && not e)
neither false h e = refl
neither true true e = refl
neither true false e = refl

hand-bit : (b h : Bool) (x : Sent) → x.handed ≡ h → (if b then hand x else x).handed ≡ (h || b)
hand-bit true true x e = refl
hand-bit true false x e = refl
hand-bit false h x e = e ∙ sym (or-false h)

hand-rows : (b : Bool) (x : Sent) → (if b then hand x else x).answer ≡ x.answer
hand-rows true x = refl
hand-rows false x = refl

queue-but : (made : List Made) (m : Made) (id c : ℕ) → requests (made ++ m ∷ []) ≡ requests made → ((k : ℕ) → is_handed (made ++ m ∷ []) k ≡ (is_handed made k || nat_eq id k)) → queue (made ++ m ∷ []) c ≡ but id (queue made c)
queue-but made m id c asked out =
    (λ i. waiting_from 1 (λ k r. nat_eq r.owner c && not (out k i)) (asked i))
    ∙ (λ i. waiting_from 1 (λ k r. neither (nat_eq r.owner c) (is_handed made k) (nat_eq id k) i) (requests made))
    ∙ waiting-but id 1 (λ k r. nat_eq r.owner c && not (is_handed made k)) (requests made)

apart : (client c : ℕ) (made : List Made) → nat_eq client c ≡ false → (k : ℕ) (r : Requested) → (nat_eq r.owner client && not (is_handed made k)) ≡ true → (nat_eq r.owner c && not (is_handed made k)) ≡ false
apart client c made differs k r e = elim (nat_eq r.owner client) as (λ b. nat_eq r.owner client ≡ b → (b && not (is_handed made k)) ≡ true → (nat_eq r.owner c && not (is_handed made k)) ≡ false) [
  | true ↦ λ own _. let other : nat_eq r.owner c ≡ false = grind (arith, nat_tests) in ap (λ b. b && not (is_handed made k)) other
  | false ↦ λ _ h. cc
] refl e

pub next_made : (old new : Routes) (client : ℕ) (request : Request) → slice_get (queue_in old.queues client) 0 ≡ Some request → new.providers ≡ old.providers → new.requests ≡ sent_with hand old.requests request.id
    → ((c : ℕ) → queue_in new.queues c ≡ (if nat_eq client c then drop 1 (queue_in old.queues c) else queue_in old.queues c)) → Makes old new client NextCall (Handed request)
next_made old new client request first same_providers writes takes = makes old new client NextCall (Handed request)
    (λ made kept. next-is made old kept client ∙ ap next_reply first)
    (λ made kept.
    let m : Made = record { client = client; call = NextCall; reply = Handed request; owner = None } in
    let asked : requests (made ++ m ∷ []) ≡ requests made = requests-same made m refl in
    let out : (id : ℕ) → is_handed (made ++ m ∷ []) id ≡ (is_handed made id || nat_eq request.id id) = λ id. handed-more made m id in
    let told : (id : ℕ) → answer_to (made ++ m ∷ []) id ≡ answer_to made id = λ id. answer-same made m id refl in
    let found = some-of (slice_get (queue made client) 0) request (sym (get-map request_of (queue made client) 0) ∙ ap (λ (l : List Request). slice_get l 0) (sym (kept.queued client)) ∙ first) in
    let w : ℕ × Requested = found.0 in
    let here : slice_get (queue made client) 0 ≡ Some w = found.1 in
    let number : w.0 ≡ request.id = ap (λ (x : Request). x.id) found.2 in
    let T : ℕ → ℕ → Requested → Bool = λ c k r. nat_eq r.owner c && not (is_handed made k) in
    let low : 1 ≤ w.0 = first-low 1 (T client) (requests made) w here in
    let high : w.0 < 1 + length (requests made) = first-high 1 (T client) (requests made) w here in
    let long : length old.requests ≡ length (requests made) = as-many old.requests (requests made) kept.ends in
    let kept_long : length new.requests ≡ length old.requests = ap length writes ∙ sent-length hand old.requests request.id in
    record {
      provided = λ p c. ap (λ ps. provider_in ps (service p c)) same_providers ∙ kept.provided p c ∙ ap (picked (service p c)) (sym (live-more made m));
      ends = ap (map ends_in) writes ∙ sent-ends hand (λ _. refl) old.requests request.id ∙ kept.ends ∙ sym (ap (map ends_of) asked);
      sent = λ i s at.
          let was = written-from hand (nat_eq request.id (suc i)) (slice_get old.requests i) s (sym (sent-get hand old.requests request.id i (omega (arith, low, number))) ∙ ap (λ (l : List Sent). slice_get l i) (sym writes) ∙ at) in
          let before = kept.sent i was.0 was.1 in
          subst (λ (z : Sent). IsSent (made ++ m ∷ []) (suc i) z) was.2 (record {
            handed = hand-bit (nat_eq request.id (suc i)) (is_handed made (suc i)) was.0 before.handed ∙ sym (out (suc i));
            answer = hand-rows (nat_eq request.id (suc i)) was.0 ∙ before.answer ∙ sym (told (suc i));
          });
      queued = λ c. takes c ∙ elim (nat_eq client c) as (λ b. nat_eq client c ≡ b → (if b then drop 1 (queue_in old.queues c) else queue_in old.queues c) ≡ map request_of (queue (made ++ m ∷ []) c)) [
        | true ↦ λ e. let same : client ≡ c = grind (arith, nat_tests) in
            ap (drop 1) (kept.queued c) ∙ sym (map-drop (queue made c)) ∙ ap (map request_of) (sym (but-first 1 (T c) (requests made) w (subst (λ (k : ℕ). slice_get (queue made k) 0 ≡ Some w) same here)) ∙ ap (λ k. but k (queue made c)) number ∙ sym (queue-but made m request.id c asked out))
        | false ↦ λ e. kept.queued c ∙ ap (map request_of) (sym (but-other 1 (T client) (T c) (apart client c made e) (requests made) w here) ∙ ap (λ k. but k (queue made c)) number ∙ sym (queue-but made m request.id c asked out))
      ] refl;
      unhanded = λ id past.
          let far : length old.requests < id = subst (λ (n : ℕ). n < id) kept_long past in
          let other : nat_eq request.id id ≡ false = grind (arith, nat_tests, high, number, long, far) in
          out id ∙ (λ i. kept.unhanded id far i || other i);
      unanswered = λ id past. told id ∙ kept.unanswered id (subst (λ (n : ℕ). n < id) kept_long past);
    })

pub next_none : (old new : Routes) (client : ℕ) → slice_get (queue_in old.queues client) 0 ≡ None → new.providers ≡ old.providers → new.requests ≡ old.requests
    → ((c : ℕ) → queue_in new.queues c ≡ (if nat_eq client c then drop 1 (queue_in old.queues c) else queue_in old.queues c)) → Makes old new client NextCall Nothing
next_none old new client none same_providers same_requests takes = makes old new client NextCall Nothing
    (λ made kept. next-is made old kept client ∙ ap next_reply none)
    (λ made kept.
    let m : Made = record { client = client; call = NextCall; reply = Nothing; owner = None } in
    rest-kept made old new m same_requests (λ c. takes c ∙ still c) refl (λ _. refl) (λ _. refl)
    (λ p c. ap (λ ps. provider_in ps (service p c)) same_providers ∙ kept.provided p c ∙ ap (picked (service p c)) (sym (live-more made m))) kept)
  where
    empty : (l : List Request) → slice_get l 0 ≡ None → drop 1 l ≡ l
    empty [] e = refl
    empty (x ∷ l) e = cc

    still : (c : ℕ) → (if nat_eq client c then drop 1 (queue_in old.queues c) else queue_in old.queues c) ≡ queue_in old.queues c
    still c = elim (nat_eq client c) as (λ b. nat_eq client c ≡ b → (if b then drop 1 (queue_in old.queues c) else queue_in old.queues c) ≡ queue_in old.queues c) [
      | true ↦ λ e. let same : client ≡ c = grind (arith, nat_tests) in empty (queue_in old.queues c) (subst (λ (k : ℕ). slice_get (queue_in old.queues k) 0 ≡ None) same none)
      | false ↦ λ _. refl
    ] refl

-- ---- a request is answered

ends-at : (made : List Made) (r : Routes) → IsKept made r → (i : ℕ) → option_map ends_in (slice_get r.requests i) ≡ option_map ends_of (slice_get (requests made) i)
ends-at made r kept i = sym (get-map ends_in r.requests i) ∙ ap (λ (l : List Ends). slice_get l i) kept.ends ∙ get-map ends_of (requests made) i

open-at : (client : ℕ) (h : Bool) (a : Option (List Row)) (o : Option Sent) (p : Option Requested) → option_map ends_in o ≡ option_map ends_of p → ((s : Sent) → o ≡ Some s → (s.handed ≡ h) × (s.answer ≡ a))
    → (option_map_or (λ (r : Requested). nat_eq r.owner client) p false && h && not (is_some a)) ≡ option_map_or (λ (s : Sent). nat_eq s.owner client && (s.handed && not (is_some s.answer))) o false
open-at client h a None None e f = refl
open-at client h a None (Some q) e f = cc
open-at client h a (Some s) None e f = cc
open-at client h a (Some s) (Some q) e f =
    let same : ends_of q ≡ ends_in s = cc in
    let parts = f s refl in
    (λ i. nat_eq (same i).owner client && sym parts.0 i && not (is_some (sym parts.1 i))) ∙ together (nat_eq s.owner client) s.handed (not (is_some s.answer))
  where
    together : (x y z : Bool) → (x && y && z) ≡ (x && (y && z))
    together true true z = refl
    together true false z = refl
    together false y z = refl

pub open-is : (made : List Made) (r : Routes) → IsKept made r → (client id : ℕ) → (is_request made id (λ q. nat_eq q.owner client) && is_handed made id && not (is_some (answer_to made id))) ≡ is_open r.requests client id
open-is made r kept client zero = refl
open-is made r kept client (suc i) = open-at client (is_handed made (suc i)) (answer_to made (suc i)) (slice_get r.requests i) (slice_get (requests made) i) (ends-at made r kept i) (λ s at. let was = kept.sent i s at in (was.handed, was.answer))

by-at : (client : ℕ) (o : Option Sent) (p : Option Requested) → option_map ends_in o ≡ option_map ends_of p → option_map_or (λ (r : Requested). nat_eq r.by client) p false ≡ option_map_or (λ (s : Sent). nat_eq s.by client) o false
by-at client None None e = refl
by-at client None (Some q) e = cc
by-at client (Some s) None e = cc
by-at client (Some s) (Some q) e = let same : ends_of q ≡ ends_in s = cc in ap (λ (x : Ends). nat_eq x.by client) same

pub by-is : (made : List Made) (r : Routes) → IsKept made r → (client id : ℕ) → is_request made id (λ q. nat_eq q.by client) ≡ is_by r.requests client id
by-is made r kept client zero = refl
by-is made r kept client (suc i) = by-at client (slice_get r.requests i) (slice_get (requests made) i) (ends-at made r kept i)

-- an open request is one of those that were made, and has no answer
open-within : (sent : List Sent) (client id : ℕ) → is_open sent client id ≡ true → (0 < id) × (id ≤ length sent)
open-within sent client zero e = cc
open-within sent client (suc i) e = by_one (slice_get sent i) refl e
  where
    by_one : (o : Option Sent) → slice_get sent i ≡ o → option_map_or (λ (s : Sent). nat_eq s.owner client && (s.handed && not (is_some s.answer))) o false ≡ true → (0 < suc i) × (suc i ≤ length sent)
    by_one None at e = cc
    by_one (Some s) at e = let low : i < length sent = get-within sent i s at in (omega arith, omega (arith, low))

pub third : (x y z : Bool) → (x && y && not z) ≡ true → z ≡ false
third x y false e = refl
third true true true e = cc
third true false true e = cc
third false y true e = cc

answer-bit : (b : Bool) (out : List Row) (x : Sent) (a : Option (List Row)) → x.answer ≡ a → (b ≡ true → a ≡ None) → (if b then answered out x else x).answer ≡ option_or a (if b then Some out else None)
answer-bit true out x a e none = sym (ap (λ o. option_or o (Some out)) (none refl))
answer-bit false out x a e none = e ∙ sym (or-none a)

answer-hand : (b : Bool) (out : List Row) (x : Sent) → (if b then answered out x else x).handed ≡ x.handed
answer-hand true out x = refl
answer-hand false out x = refl

pub no-rows : (a : Option (List Row)) → is_some a ≡ false → a ≡ None
no-rows None e = refl
no-rows (Some l) e = cc

pub answer_made : (old new : Routes) (client id : ℕ) (out : List Row) → is_open old.requests client id ≡ true → new.providers ≡ old.providers → new.queues ≡ old.queues → new.requests ≡ sent_with (answered out) old.requests id → Makes old new client (Answer id out) Accepted
answer_made old new client id out opened same_providers same_queues writes = makes old new client (Answer id out) Accepted
    (λ made kept. ap (λ b. if b then Accepted else Refused (NoCall id)) (open-is made old kept client id ∙ opened))
    (λ made kept.
    let m : Made = record { client = client; call = Answer id out; reply = Accepted; owner = None } in
    let asked : requests (made ++ m ∷ []) ≡ requests made = requests-same made m refl in
    let given : (k : ℕ) → is_handed (made ++ m ∷ []) k ≡ is_handed made k = λ k. handed-same made m k refl in
    let told : (k : ℕ) → answer_to (made ++ m ∷ []) k ≡ option_or (answer_to made k) (if nat_eq id k then Some out else None) = λ k. answer-more made m k in
    let within = open-within old.requests client id opened in
    let low : 0 < id = within.0 in
    let high : id ≤ length old.requests = within.1 in
    let none : answer_to made id ≡ None = no-rows (answer_to made id) (third (is_request made id (λ q. nat_eq q.owner client)) (is_handed made id) (is_some (answer_to made id)) (open-is made old kept client id ∙ opened)) in
    let kept_long : length new.requests ≡ length old.requests = ap length writes ∙ sent-length (answered out) old.requests id in
    record {
      provided = λ p c. ap (λ ps. provider_in ps (service p c)) same_providers ∙ kept.provided p c ∙ ap (picked (service p c)) (sym (live-more made m));
      ends = ap (map ends_in) writes ∙ sent-ends (answered out) (λ _. refl) old.requests id ∙ kept.ends ∙ sym (ap (map ends_of) asked);
      sent = λ i s at.
          let was = written-from (answered out) (nat_eq id (suc i)) (slice_get old.requests i) s (sym (sent-get (answered out) old.requests id i low) ∙ ap (λ (l : List Sent). slice_get l i) (sym writes) ∙ at) in
          let before = kept.sent i was.0 was.1 in
          subst (λ (z : Sent). IsSent (made ++ m ∷ []) (suc i) z) was.2 (record {
            handed = answer-hand (nat_eq id (suc i)) out was.0 ∙ before.handed ∙ sym (given (suc i));
            answer = answer-bit (nat_eq id (suc i)) out was.0 (answer_to made (suc i)) before.answer (λ e. let same : id ≡ suc i = grind (arith, nat_tests) in ap (answer_to made) (sym same) ∙ none) ∙ sym (told (suc i));
          });
      queued = λ c. ap (λ (q : List (ℕ × List Request)). queue_in q c) same_queues ∙ kept.queued c ∙ (λ i. map request_of (waiting_from 1 (λ k r. nat_eq r.owner c && not (sym (given k) i)) (sym asked i)));
      unhanded = λ k past. given k ∙ kept.unhanded k (subst (λ (n : ℕ). n < k) kept_long past);
      unanswered = λ k past.
          let far : length old.requests < k = subst (λ (n : ℕ). n < k) kept_long past in
          let other : nat_eq id k ≡ false = grind (arith, nat_tests, high, far) in
          told k ∙ (λ i. option_or (kept.unanswered k far i) (if other i then Some out else None));
    })

pub answer_refused : (r : Routes) (client id : ℕ) (out : List Row) → is_open r.requests client id ≡ false → Makes r r client (Answer id out) (Refused (NoCall id))
answer_refused r client id out closed = makes r r client (Answer id out) (Refused (NoCall id))
    (λ made kept. ap (λ b. if b then Accepted else Refused (NoCall id)) (open-is made r kept client id ∙ closed))
    (λ made kept. let m : Made = record { client = client; call = Answer id out; reply = Refused (NoCall id); owner = None } in quiet made r m (live-more made m) refl (λ _. refl) (λ _. refl) kept)

-- ---- an answer is collected

rows-at : (made : List Made) (r : Routes) → IsKept made r → (client id : ℕ) → is_by r.requests client id ≡ true → answer_to made id ≡ option_and_then (λ (s : Sent). s.answer) (sent_at r.requests id)
rows-at made r kept client zero e = cc
rows-at made r kept client (suc i) e = by_one (slice_get r.requests i) refl e
  where
    by_one : (o : Option Sent) → slice_get r.requests i ≡ o → option_map_or (λ (s : Sent). nat_eq s.by client) o false ≡ true → answer_to made (suc i) ≡ option_and_then (λ (s : Sent). s.answer) o
    by_one None at e = cc
    by_one (Some s) at e = sym (kept.sent i s at).answer

pub collect_made : (r : Routes) (client id : ℕ) (rows : Option (List Row)) → is_by r.requests client id ≡ true → rows ≡ option_and_then (λ (s : Sent). s.answer) (sent_at r.requests id) → Makes r r client (Collect id) (output rows)
collect_made r client id rows own same = makes r r client (Collect id) (output rows)
    (λ made kept. ap (λ b. if b then output (answer_to made id) else Refused (NoCall id)) (by-is made r kept client id ∙ own) ∙ ap output (rows-at made r kept client id own ∙ sym same))
    (λ made kept. let m : Made = record { client = client; call = Collect id; reply = output rows; owner = None } in quiet made r m (live-more made m) refl (λ k. no_hand rows k) (λ _. refl) kept)
  where
    no_hand : (o : Option (List Row)) (k : ℕ) → hands (output o) k ≡ false
    no_hand None k = refl
    no_hand (Some l) k = refl

pub collect_refused : (r : Routes) (client id : ℕ) → is_by r.requests client id ≡ false → Makes r r client (Collect id) (Refused (NoCall id))
collect_refused r client id other = makes r r client (Collect id) (Refused (NoCall id))
    (λ made kept. ap (λ b. if b then output (answer_to made id) else Refused (NoCall id)) (by-is made r kept client id ∙ other))
    (λ made kept. let m : Made = record { client = client; call = Collect id; reply = Refused (NoCall id); owner = None } in quiet made r m (live-more made m) refl (λ _. refl) (λ _. refl) kept)

-- ---- what would be given

pub next_gives : (r : Routes) (client : ℕ) (b : Bool) → b ≡ is_some (slice_get (queue_in r.queues client) 0) → Gives r client NextCall b
next_gives r client b e calls kept = e ∙ of_reply (slice_get (queue_in r.queues client) 0) ∙ ap gives (sym (next-is (made_of calls) r kept client))
  where
    of_reply : (o : Option Request) → is_some o ≡ gives (next_reply o)
    of_reply None = refl
    of_reply (Some x) = refl

of_output : (o : Option (List Row)) → is_some o ≡ gives (output o)
of_output None = refl
of_output (Some rows) = refl

pub collect_gives : (r : Routes) (client id : ℕ) → is_by r.requests client id ≡ true → Gives r client (Collect id) (is_some (option_and_then (λ (s : Sent). s.answer) (sent_at r.requests id)))
collect_gives r client id own calls kept =
    let made : List Made = made_of calls in
    of_output (option_and_then (λ (s : Sent). s.answer) (sent_at r.requests id))
    ∙ ap (λ o. gives (output o)) (sym (rows-at made r kept client id own))
    ∙ ap (λ b. gives (if b then output (answer_to made id) else Refused (NoCall id))) (sym (by-is made r kept client id ∙ own))

pub collect_gives_none : (r : Routes) (client id : ℕ) → is_by r.requests client id ≡ false → Gives r client (Collect id) false
collect_gives_none r client id other calls kept = ap (λ b. gives (if b then output (answer_to (made_of calls) id) else Refused (NoCall id))) (sym (by-is (made_of calls) r kept client id ∙ other))
