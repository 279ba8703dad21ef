-- The calls on the router among those of the log: the state after a call, and its answer.
use Rattle.std.proofs.Common.{◌≡◌, ℕ, zero, suc, ◌+◌, ◌<◌, true, false, List, [], ◌∷◌, ◌++◌, length, Option, None, Some, Result, Ok, Err, refl, ap, sym, ◌∙◌, subst, arith, append-nil, if◌then◌else◌}
use Rattle.std.specs.Prelude.{is_some, unwrap_or}
use Rattle.std.specs.Option.{option_map, option_to_list}
use Rattle.std.proofs.lemmas.List.Elements.{filter_map-append}
use Rattle.std.proofs.lemmas.List.Sums.{fold-append}
use Rattle.sal_types.specs.declared.value.Step.{Step}
use Rattle.sal_types.specs.declared.row.Row.{Row}
use Rattle.sal_rows.specs.declared.outcome.CallFault.{CallFault}
use Rattle.sal_rpc.specs.declared.call.Request.{Request}
use Rattle.sal_rpc.specs.declared.call.RpcCall.{RpcCall}
use Rattle.sal_rpc.specs.declared.call.RpcCall.TheVariants as rpcs
use Rattle.sal_rpc.specs.declared.call.RpcFault.{RpcFault}
use Rattle.sal_rpc.specs.declared.call.RpcFault.TheVariants as faults
use Rattle.sal_rpc.specs.declared.call.RpcReply.{RpcReply}
use Rattle.sal_rpc.specs.declared.call.RpcReply.TheVariants as replies
use Rattle.sal_rpc.specs.Answers as router
use Rattle.sal_rpc.specs.Routes.{IsOf, Routes, next_reply}
use Rattle.sal_rpc.specs.Routing.{Asked, Made as Routed, Requested, made_of, make, output, owner_of, reply_to as routed_to, request_at, requested, requests, sent_to}
use Rattle.sal_history.specs.declared.call.Call.TheVariants.{Invoke}
use Rattle.sal_history.specs.declared.call.Entry.{Entry}
use Rattle.sal_history.specs.World.{Domain}
use Rattle.sal_history.specs.History.{Answered, entries_of, history, marks as sets, reply_to}
use Rattle.sal_history.specs.Services.{by_router, mount_call, note_call, rpc_asked, rpc_calls, rpc_fault, rpc_of, rpc_reply}
use Rattle.sal_hub.specs.declared.call_id.CallId.{CallId}
use Rattle.sal_hub.specs.declared.pipeline.Pipeline.{Pipeline}
use Rattle.sal_hub.specs.Current.{known_of}
use Rattle.sal_hub.specs.Journals.{Noted, jotted, mark_at, taken_back}
use Rattle.sal_hub.specs.HubHistory.{HubHistory, entry_of, more}
use Rattle.sal_hub.specs.Routed.{AreRouted, left_by, collect_reply, request_reply, shared}
use Rattle.sal_hub.specs.Services.{IsServed}
use Rattle.sal_hub.specs.Tokens.{IsCall}
use Rattle.sal_hub.proofs.Beginning.{made_now}
use Rattle.sal_hub.proofs.Histories.{listed, rpc-push}
use Rattle.sal_hub.proofs.Listed.{slice_get_more, slice_get_seam}
use Rattle.sal_hub.proofs.Served.{Entered, Failed, is_serving, serving_kept}

-- ---- the calls on the router, as shared calls

-- the RPC of which the answer speaks
abbrev pub rpc_asked_for : List Answered → RpcCall → ℕ
rpc_asked_for answered (rpcs.Provide rpc context) = rpc
rpc_asked_for answered (rpcs.Withdraw rpc context) = rpc
rpc_asked_for answered (rpcs.Invoke rpc context input) = rpc
rpc_asked_for answered rpcs.NextCall = 0
rpc_asked_for answered (rpcs.Answer id rows) = 0
rpc_asked_for answered (rpcs.Collect id) = unwrap_or (rpc_of answered id) 0

asked_once : (client : ℕ) (c : RpcCall) → rpc_asked client (shared c) ≡ Some (record { client = client; call = c })
asked_once client (rpcs.Provide rpc context) = refl
asked_once client (rpcs.Withdraw rpc context) = refl
asked_once client (rpcs.Invoke rpc context input) = refl
asked_once client rpcs.NextCall = refl
asked_once client (rpcs.Answer id rows) = refl
asked_once client (rpcs.Collect id) = refl

answered_by : (world : List Domain) (answered : List Answered) (client : ℕ) (c : RpcCall) → reply_to world answered client (shared c) ≡ rpc_reply (rpc_asked_for answered c) (by_router answered client c)
answered_by world answered client (rpcs.Provide rpc context) = refl
answered_by world answered client (rpcs.Withdraw rpc context) = refl
answered_by world answered client (rpcs.Invoke rpc context input) = refl
answered_by world answered client rpcs.NextCall = refl
answered_by world answered client (rpcs.Answer id rows) = refl
answered_by world answered client (rpcs.Collect id) = refl

-- they are none on mounts or notifications, and set no mark
pub unmounting : (c : RpcCall) → mount_call (shared c) ≡ None
unmounting (rpcs.Provide rpc context) = refl
unmounting c = refl

pub unnoting : (c : RpcCall) → note_call (shared c) ≡ None
unnoting (rpcs.Provide rpc context) = refl
unnoting c = refl

pub unmarking : (c : RpcCall) (m : ℕ) → sets (shared c) m ≡ false
unmarking (rpcs.Provide rpc context) m = refl
unmarking c m = refl

pub serving : (c : RpcCall) → is_serving (shared c) ≡ true
serving (rpcs.Provide rpc context) = refl
serving c = refl

-- one that takes no memory answers as one that may
pub always_answers : {X : Type 0} (old new : Routes) (client : ℕ) (c : RpcCall) (good : X → RpcReply) (result : Result X RpcFault) → router.AnswersAlways old new client c good result → router.Answers old new client c good result
always_answers old new client c good (Ok x) made = made
always_answers old new client c good (Err (faults.NoProvider rpc)) fails = fails
always_answers old new client c good (Err (faults.ProviderTaken rpc)) fails = fails
always_answers old new client c good (Err (faults.NoCall id)) fails = fails
always_answers old new client c good (Err faults.NoMemory) fails = absurd fails

-- ---- a call of a client

module _ {j : Noted} {p : Pipeline} {r : Routes} (was : IsServed AreRouted j p r) (j' : Noted) (r' : Routes) (client : ℕ) (c : RpcCall) (log : j'.log ≡ jotted j.log client (shared c)) (marks : (k : ℕ) → mark_at j'.marks k ≡ mark_at j.marks k) where
  abbrev old : HubHistory
  old = known_of j p

  abbrev answered : List Answered
  answered = history (known_of j p).world j.log

  abbrev calls : List Asked
  calls = rpc_calls (history (known_of j p).world j.log)

  longer : rpc_calls (history (known_of j p).world j'.log) ≡ rpc_calls (history (known_of j p).world j.log) ++ record { client = client; call = c } ∷ []
  longer =
      (λ i. rpc_calls (history old.world (log i)))
      ∙ rpc-push old.world j.log (record { client = client; number = entries_of j.log client; call = shared c })
      ∙ ap (λ (o : Option Asked). calls ++ option_to_list o) (asked_once client c)

  -- a call that was made
  pub entered_call : (reply : RpcReply) → length j.log < 1000000 → router.Makes r r' client c reply
      → Entered AreRouted (known_of j p) j' p r' (entry_of (known_of j p) client (shared c)) (rpc_reply (rpc_asked_for (history (known_of j p).world j.log) c) reply)
  entered_call reply room made = record {
    service = record {
      kept = serving_kept j j' p was.kept client (shared c) (serving c) (unmounting c) log marks;
      served = subst (λ (l : List Asked). IsOf l r') (sym longer) (made.longer calls was.served);
    };
    answer = made_now j j' p was.kept client (shared c) log (rpc_reply (rpc_asked_for answered c) reply) room
        (answered_by old.world answered client c ∙ ap (rpc_reply (rpc_asked_for answered c)) (made.answer calls was.served));
  }

  -- the fault of a call that takes no memory
  refused_by : (fault : RpcFault) → length j.log < 1000000 → router.Refuses r r' client c fault → Failed AreRouted (known_of j p) j' p r' (entry_of (known_of j p) client (shared c)) (rpc_fault fault)
  refused_by (faults.NoProvider rpc) room is = let it = entered_call (replies.Refused (faults.NoProvider rpc)) room is.made in record { service = it.service; answer = it.answer }
  refused_by (faults.ProviderTaken rpc) room is = let it = entered_call (replies.Refused (faults.ProviderTaken rpc)) room is.made in record { service = it.service; answer = it.answer }
  refused_by (faults.NoCall id) room is = let it = entered_call (replies.Refused (faults.NoCall id)) room is.made in record { service = it.service; answer = it.answer }
  refused_by faults.NoMemory room is = absurd is

  pub refused_call : (fault : RpcFault) (f : CallFault) → f ≡ rpc_fault fault → length j.log < 1000000 → router.Refuses r r' client c fault → Failed AreRouted (known_of j p) j' p r' (entry_of (known_of j p) client (shared c)) f
  refused_call fault f of_router room is = subst (Failed AreRouted (known_of j p) j' p r' (entry_of (known_of j p) client (shared c))) (sym of_router) (refused_by fault room is)

  module _ (undo : taken_back j' ≡ j) where
    failed_by : (fault : RpcFault) → length j.log < 1000000 → router.Fails r r' client c fault → Failed AreRouted (known_of j p) (left_by fault j') p r' (entry_of (known_of j p) client (shared c)) (rpc_fault fault)
    failed_by (faults.NoProvider rpc) room fails = refused_by (faults.NoProvider rpc) room fails
    failed_by (faults.ProviderTaken rpc) room fails = refused_by (faults.ProviderTaken rpc) room fails
    failed_by (faults.NoCall id) room fails = refused_by (faults.NoCall id) room fails
    failed_by faults.NoMemory room same = subst (λ (x : Noted). Failed AreRouted (known_of j p) x p r' (entry_of (known_of j p) client (shared c)) (rpc_fault faults.NoMemory)) (sym undo) (record {
      service = subst (IsServed AreRouted j p) (sym same) was;
      answer = refl;
    })

    -- the fault of a call
    pub failed_call : (fault : RpcFault) (f : CallFault) → f ≡ rpc_fault fault → (j'' : Noted) → j'' ≡ left_by fault j' → length j.log < 1000000 → router.Fails r r' client c fault → Failed AreRouted (known_of j p) j'' p r' (entry_of (known_of j p) client (shared c)) f
    failed_call fault f of_router j'' left room fails =
        subst (λ (x : Noted). Failed AreRouted (known_of j p) x p r' (entry_of (known_of j p) client (shared c)) f) (sym left)
        (subst (Failed AreRouted (known_of j p) (left_by fault j') p r' (entry_of (known_of j p) client (shared c))) (sym of_router) (failed_by fault room fails))

-- the answer to a next call
pub next_reply_is : (o : Option Request) → rpc_reply 0 (next_reply o) ≡ request_reply o
next_reply_is None = refl
next_reply_is (Some request) = refl

-- the answer to a collection, for a request that was made
pub collect_reply_is : (known : HubHistory) (id : CallId) (o : Option (List Row)) → IsCall known id → rpc_reply (unwrap_or (rpc_of (history known.world known.log) id.number) 0) (output o) ≡ collect_reply id.rpc o
collect_reply_is known id None is = refl
collect_reply_is known id (Some rows) is = ap (λ (rpc : Option ℕ). rpc_reply (unwrap_or rpc 0) (output (Some rows))) is.1

-- ---- requests

-- one call more
requests-push : (asked : List Asked) (a : Asked) → requests (made_of (asked ++ a ∷ [])) ≡ requests (made_of asked) ++ option_to_list (requested a.client (sent_to (made_of asked) a.call) a.call)
requests-push asked a =
    ap requests (fold-append make [] asked (a ∷ []))
    ∙ filter_map-append (λ (m : Routed). requested m.client m.owner m.call) (made_of asked) (record { client = a.client; call = a.call; reply = routed_to (made_of asked) a.client a.call; owner = sent_to (made_of asked) a.call } ∷ [])
    ∙ listed (requests (made_of asked)) (requested a.client (sent_to (made_of asked) a.call) a.call)

requests-more : (asked : List Asked) (o : Option Asked) → (rs : List Requested) × (requests (made_of (asked ++ option_to_list o)) ≡ requests (made_of asked) ++ rs)
requests-more asked None = ([], ap (λ (l : List Asked). requests (made_of l)) (append-nil asked) ∙ sym (append-nil (requests (made_of asked))))
requests-more asked (Some a) = (option_to_list (requested a.client (sent_to (made_of asked) a.call) a.call), requests-push asked a)

request_more : (rs more : List Requested) (id : ℕ) (r : Requested) → request_at rs id ≡ Some r → request_at (rs ++ more) id ≡ Some r
request_more rs more zero r at = cc
request_more rs more (suc i) r at = slice_get_more rs more i r at

pub call_last : (known : HubHistory) (e : Entry) (id : CallId) → IsCall known id → IsCall (more known e) id
call_last known e id was = (was.0, last (request_at (requests (made_of calls)) id.number) refl was.1)
  where
    calls : List Asked
    calls = rpc_calls (history known.world known.log)

    last : (o : Option Requested) → request_at (requests (made_of (rpc_calls (history known.world known.log)))) id.number ≡ o → option_map (λ (r : Requested). r.rpc) o ≡ Some id.rpc
        → rpc_of (history known.world (known.log ++ e ∷ [])) id.number ≡ Some id.rpc
    last None at is = cc
    last (Some r) at is =
        let more = requests-more (rpc_calls (history known.world known.log)) (rpc_asked e.client e.call) in
        ap (λ (l : List Asked). option_map (λ (x : Requested). x.rpc) (request_at (requests (made_of l)) id.number)) (rpc-push known.world known.log e)
        ∙ ap (λ (rs : List Requested). option_map (λ (x : Requested). x.rpc) (request_at rs id.number)) more.1
        ∙ ap (option_map (λ (x : Requested). x.rpc)) (request_more (requests (made_of (rpc_calls (history known.world known.log)))) more.0 id.number r at) ∙ is

-- the request that a call with this answer made
abbrev number_in : RpcReply → ℕ
number_in (replies.CallMade id) = id
number_in reply = 0

made_number : (o : Option ℕ) (count number rpc : ℕ) → (if is_some o then replies.CallMade (count + 1) else replies.Refused (faults.NoProvider rpc)) ≡ replies.CallMade number → (owner : ℕ) × (o ≡ Some owner) × (number ≡ suc count)
made_number None count number rpc e = cc
made_number (Some owner) count number rpc e = (owner, refl, let one : count + 1 ≡ suc count = omega arith in sym (ap number_in e) ∙ one)

module _ {j : Noted} {p : Pipeline} {r : Routes} (was : IsServed AreRouted j p r) (j' : Noted) (r' : Routes) (client rpc : ℕ) (context : Option (List Step)) (input : List Row) (log : j'.log ≡ jotted j.log client (Invoke rpc context input)) (marks : (k : ℕ) → mark_at j'.marks k ≡ mark_at j.marks k)
    (number : ℕ) (made : router.Makes r r' client (rpcs.Invoke rpc context input) (replies.CallMade number)) where
  abbrev before : List Asked
  before = rpc_calls (history (known_of j p).world j.log)

  abbrev rs : List Requested
  rs = requests (made_of (rpc_calls (history (known_of j p).world j.log)))

  pub invoked : (id : CallId) → id ≡ record { number = number; rpc = rpc } → IsCall (known_of j' p) id
  invoked id is =
      let found = made_number (owner_of (made_of before) rpc context) (length rs) number rpc (made.answer before was.served) in
      let fresh : Requested = record { by = client; owner = found.0; rpc = rpc; context = context; input = input } in
      let grown : requests (made_of (rpc_calls (history (known_of j p).world j'.log))) ≡ rs ++ fresh ∷ [] =
      ap (λ (l : List Asked). requests (made_of l)) (longer was j' r' client (rpcs.Invoke rpc context input) log marks)
      ∙ requests-push before (record { client = client; call = rpcs.Invoke rpc context input })
      ∙ ap (λ (o : Option ℕ). rs ++ option_to_list (requested client o (rpcs.Invoke rpc context input))) found.1 in
      let at : request_at (requests (made_of (rpc_calls (history (known_of j p).world j'.log)))) number ≡ Some fresh =
      (λ i. request_at (grown i) (found.2 i)) ∙ slice_get_seam rs fresh [] in
      subst (λ (x : CallId). IsCall (known_of j' p) x) (sym is)
      (omega (arith, found.2), ap (option_map (λ (x : Requested). x.rpc)) at)
