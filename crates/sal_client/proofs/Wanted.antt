-- The shared calls that steps ask for, or why they are refused.
use Rattle.std.proofs.Common.{◌≡◌, ℕ, Bool, true, false, List, Option, None, Some, Result, Ok, Err, if◌then◌else◌, refl, ap, sym, ◌∙◌, subst}
use Rattle.std.specs.Prelude.{IsSome}
use Rattle.std.specs.Option.{option_map}
use Rattle.serde_json.specs.Data.{Data}
use Rattle.sal_types.specs.declared.value.Store.{Store}
use Rattle.sal_types.specs.declared.value.Step.{Step}
use Rattle.sal_types.specs.Reading.{◌>>=◌}
use Rattle.sal_schema.specs.declared.table.SchemaTable.{SchemaTable}
use Rattle.sal_pathtext.specs.declared.fault.PathTextFault.{PathTextFault}
use Rattle.sal_pathtext.specs.Read.{read_path}
use Rattle.sal_history.specs.declared.call.Call.{Call}
use Rattle.sal_history.specs.declared.call.Call.TheVariants as made
use Rattle.sal_script.specs.declared.reply.StepRefusal.{StepRefusal}
use Rattle.sal_script.specs.declared.reply.StepRefusal.TheVariants.{EmptySlot, NoDevice}
use Rattle.sal_script.specs.Messages.{input_of, output_of, rpc_called}
use Rattle.sal_script.specs.Moves as asked
use Rattle.sal_script.specs.Moves.{Move}
use Rattle.sal_script.specs.Play.{Client, ask, listen_at, meet, refused}
use Rattle.sal_script.specs.Tables.{Versions, has_domain, last_in}
use Rattle.sal_script.specs.Services as services
use Rattle.sal_script.specs.Services.{OrRefusal, context_of, if_known, path_or, rows_of}
use Rattle.sal_hub.specs.HubHistory.{HubHistory}
use Rattle.sal_client.specs.declared.client.ClientState.{ClientState}
use Rattle.sal_client.specs.declared.fault.StepFault.{StepFault}
use Rattle.sal_client.specs.declared.fault.StepFault.TheVariants.{Refused, NoMemory}
use Rattle.sal_client.specs.declared.messages.Service.{Service}
use Rattle.sal_client.specs.declared.rpcs.Answer.{Answer}
use Rattle.sal_client.specs.declared.rpcs.Ask.{Ask}
use Rattle.sal_client.specs.declared.rpcs.Invocation.{Invocation}
use Rattle.sal_client.specs.declared.rpcs.RpcWish.TheVariants as rpcs
use Rattle.sal_client.specs.declared.wish.Target.{Target}
use Rattle.sal_client.specs.declared.wish.Wish.{Wish}
use Rattle.sal_client.specs.declared.wish.Wish.TheVariants.{Listen, Rpc}
use Rattle.sal_client.specs.Asked.{IsAnswerTo, IsAsk, IsAskBy, IsService, invocation_of, service_of}
use Rattle.sal_client.specs.Clients.{client_of}
use Rattle.sal_client.specs.Faults.{Refuses}
use Rattle.sal_client.specs.Slots.{held}
use Rattle.sal_client.specs.Targets.{IsTarget, path_in}
use Rattle.sal_client.specs.Wishes.{CanMake, IsRefused, ReadBy, Wants, move_by, wish_if, wished}
use Rattle.sal_client.proofs.Faults.{refuses_behind, refuses_on}

-- ---- what was read of a service, and what is read after it

by_service : {C : Type 0} (rpc : OrRefusal ℕ) (context : OrRefusal (Option (List Step))) (f : ℕ → Option (List Step) → OrRefusal C)
    → (rpc >>= λ n. context >>= λ at. f n at) ≡ ((rpc >>= λ n. context >>= λ at. let r : OrRefusal (ℕ × Option (List Step)) = Ok (n, at) in r) >>= λ p. f p.0 p.1)
by_service (Err refusal) context f = refl
by_service (Ok n) (Err refusal) f = refl
by_service (Ok n) (Ok at) f = refl

module _ (table : SchemaTable) (name : List ℕ) (text : Option (List ℕ)) where
  abbrev service : OrRefusal (ℕ × Option (List Step))
  service = service_of table name text

  abbrev with_input : Data → ℕ × Option (List Step) → OrRefusal Call
  with_input value p = rows_of table (input_of table p.0) value >>= λ input. Ok (made.Invoke p.0 p.1 input)

  provide_by : services.provide table name text ≡ (service >>= λ p. Ok (made.Provide p.0 p.1))
  provide_by = by_service (if_known (rpc_called table name)) (context_of table text) (λ n at. Ok (made.Provide n at))

  withdraw_by : services.withdraw table name text ≡ (service >>= λ p. Ok (made.Withdraw p.0 p.1))
  withdraw_by = by_service (if_known (rpc_called table name)) (context_of table text) (λ n at. Ok (made.Withdraw n at))

  invoke_by : (value : Data) → services.invoke table name text value ≡ (service >>= with_input value)
  invoke_by value = by_service (if_known (rpc_called table name)) (context_of table text) (λ n at. with_input value (n, at))

  -- a request of a service that was not read
  pub ask_refuses : (value : Data) (fault : StepFault) → Refuses fault service → Refuses fault (services.invoke table name text value)
  ask_refuses value fault is = subst (Refuses fault) (sym (invoke_by value)) (refuses_on fault service (with_input value) is)

  -- and of one that was
  pub ask_by : (value : Data) (s : Service) (read : Result Ask StepFault) → IsService table name text (Ok s) → IsAsk table s value read → IsAskBy table name text value read
  ask_by value s (Ok a) has is =
      let same : a.service ≡ s = is.0 in
      let rpc : with_input value (s.rpc, s.context) ≡ Ok (made.Invoke s.rpc s.context a.input) = ap (λ r. r >>= λ input. Ok (made.Invoke s.rpc s.context input)) is.2 in (
        ap (λ (x : Service). x.name.value) same ∙ has.0,
        ap (λ (x : Service). x.text.value) same ∙ has.1,
        is.1,
        invoke_by value ∙ ap (λ r. r >>= with_input value) has.2 ∙ rpc ∙ (λ i. Ok (made.Invoke (sym same i).rpc (sym same i).context a.input)),
      )
  ask_by value s (Err fault) has is =
      subst (Refuses fault) (sym (invoke_by value)) (refuses_behind fault service (s.rpc, s.context) (with_input value) has.2 (refuses_on fault (rows_of table (input_of table s.rpc) value) (λ input. Ok (made.Invoke s.rpc s.context input)) is))

-- a service that was not read, by its name and its context
pub service_refuses : (table : SchemaTable) (name : List ℕ) (text : Option (List ℕ)) (fault : StepFault) → Refuses fault (if_known (rpc_called table name)) → Refuses fault (service_of table name text)
service_refuses table name text fault is = refuses_on fault (if_known (rpc_called table name)) (λ rpc. context_of table text >>= (λ context. Ok (rpc, context))) is

pub context_refuses : (table : SchemaTable) (name : List ℕ) (text : Option (List ℕ)) (rpc : ℕ) (fault : StepFault) → if_known (rpc_called table name) ≡ Ok rpc → Refuses fault (context_of table text) → Refuses fault (service_of table name text)
context_refuses table name text rpc fault known is =
    refuses_behind fault (if_known (rpc_called table name)) rpc (λ n. context_of table text >>= (λ context. Ok (n, context))) known (refuses_on fault (context_of table text) (λ context. Ok (rpc, context)) is)

pub service_reads : (table : SchemaTable) (name : List ℕ) (text : Option (List ℕ)) (rpc : ℕ) (context : Option (List Step)) → if_known (rpc_called table name) ≡ Ok rpc → context_of table text ≡ Ok context → service_of table name text ≡ Ok (rpc, context)
service_reads table name text rpc context known is = ap (λ r. r >>= (λ n. context_of table text >>= (λ at. Ok (n, at)))) known ∙ ap (λ r. r >>= (λ at. Ok (rpc, at))) is

-- ---- what steps ask for

module _ (tables : List Versions) (c : ClientState) where
  abbrev client : Client
  client = client_of c

  abbrev table : SchemaTable
  table = last_in tables 0

  -- what a service refuses
  pub refused_by : (step : Move) (call : OrRefusal Call) (fault : StepFault) → ((known : HubHistory) → meet tables known.world known.log client step ≡ ask call client) → Refuses fault call → IsRefused tables c step fault
  refused_by step call (Refused refusal) met is = λ known. met known ∙ ap (λ o. ask o client) is
  refused_by step call NoMemory met is = tt

  -- a slot that is empty, or has what the call takes
  pub wants_if : {X : Type 0} (step : Move) (wish : Wish) (slot : Option X) (result : Result Wish StepFault) → result ≡ wish_if wish slot → (slot ≡ None → (known : HubHistory) → meet tables known.world known.log client step ≡ refused EmptySlot client)
      → (IsSome slot → (step ≡ move_by wish) × CanMake wish c × ReadBy tables wish) → Wants tables c step result
  wants_if step wish None result is none some = subst (Wants tables c step) (sym is) (none refl)
  wants_if step wish (Some x) result is none some = subst (Wants tables c step) (sym is) (some refl)

  provided : (name : List ℕ) (text : Option (List ℕ)) (read : Result Service StepFault) → IsService table name text read → Wants tables c (asked.Provide name text) (wished (λ (s : Service). Rpc (rpcs.Provide s)) read)
  provided name text (Ok s) has = (
    λ i. asked.Provide (sym has.0 i) (sym has.1 i),
    tt,
    (λ i. services.provide table (has.0 i) (has.1 i)) ∙ provide_by table name text ∙ ap (λ r. r >>= λ p. Ok (made.Provide p.0 p.1)) has.2,
  )
  provided name text (Err fault) has =
      refused_by (asked.Provide name text) (services.provide table name text) fault (λ known. refl) (subst (Refuses fault) (sym (provide_by table name text)) (refuses_on fault (service_of table name text) (λ p. Ok (made.Provide p.0 p.1)) has))

  withdrawn : (name : List ℕ) (text : Option (List ℕ)) (read : Result Service StepFault) → IsService table name text read → Wants tables c (asked.Withdraw name text) (wished (λ (s : Service). Rpc (rpcs.Withdraw s)) read)
  withdrawn name text (Ok s) has = (
    λ i. asked.Withdraw (sym has.0 i) (sym has.1 i),
    tt,
    (λ i. services.withdraw table (has.0 i) (has.1 i)) ∙ withdraw_by table name text ∙ ap (λ r. r >>= λ p. Ok (made.Withdraw p.0 p.1)) has.2,
  )
  withdrawn name text (Err fault) has =
      refused_by (asked.Withdraw name text) (services.withdraw table name text) fault (λ known. refl) (subst (Refuses fault) (sym (withdraw_by table name text)) (refuses_on fault (service_of table name text) (λ p. Ok (made.Withdraw p.0 p.1)) has))

  invoked : (slot : ℕ) (name : List ℕ) (text : Option (List ℕ)) (value : Data) (read : Result Ask StepFault) → IsAskBy table name text value read → Wants tables c (asked.Invoke slot name text value) (wished (λ (a : Ask). Rpc (rpcs.Invoke slot a)) read)
  invoked slot name text value (Ok a) has = (
    λ i. asked.Invoke slot (sym has.0 i) (sym has.1 i) (sym has.2 i),
    tt,
    (λ i. services.invoke table (has.0 i) (has.1 i) (has.2 i)) ∙ has.3,
  )
  invoked slot name text value (Err fault) has = refused_by (asked.Invoke slot name text value) (services.invoke table name text value) fault (λ known. refl) has

  module _ (own : SchemaTable) (is : own ≡ table) (result : Result Wish StepFault) where
    pub wants_provide : (name : List ℕ) (text : Option (List ℕ)) (read : Result Service StepFault) → IsService own name text read → result ≡ wished (λ (s : Service). Rpc (rpcs.Provide s)) read → Wants tables c (asked.Provide name text) result
    wants_provide name text read has made = subst (Wants tables c (asked.Provide name text)) (sym made) (provided name text read (subst (λ t. IsService t name text read) is has))

    pub wants_withdraw : (name : List ℕ) (text : Option (List ℕ)) (read : Result Service StepFault) → IsService own name text read → result ≡ wished (λ (s : Service). Rpc (rpcs.Withdraw s)) read → Wants tables c (asked.Withdraw name text) result
    wants_withdraw name text read has made = subst (Wants tables c (asked.Withdraw name text)) (sym made) (withdrawn name text read (subst (λ t. IsService t name text read) is has))

    pub wants_invoke : (slot : ℕ) (name : List ℕ) (text : Option (List ℕ)) (value : Data) (read : Result Ask StepFault) → IsAskBy own name text value read → result ≡ wished (λ (a : Ask). Rpc (rpcs.Invoke slot a)) read → Wants tables c (asked.Invoke slot name text value) result
    wants_invoke slot name text value read has made = subst (Wants tables c (asked.Invoke slot name text value)) (sym made) (invoked slot name text value read (subst (λ t. IsAskBy t name text value read) is has))

  -- the answer to a request that the client was handed
  pub wants_answer : (own : SchemaTable) → own ≡ table → (slot : ℕ) (value : Data) (request : Invocation) → held c.handed slot ≡ Some request → (read : Result Answer StepFault) → IsAnswerTo own request value read → Wants tables c (asked.Answer slot value) (wished (λ (a : Answer). Rpc (rpcs.Answer slot a)) read)
  wants_answer own is slot value request found (Ok a) has =
      let rows : rows_of table (output_of table request.rpc) value ≡ Ok a.output = (λ i. rows_of (sym is i) (output_of (sym is i) request.rpc) value) ∙ has.2 in (
        λ i. asked.Answer slot (sym has.1 i),
        found ∙ ap Some (sym has.0),
        (λ i. services.answer table (Some (invocation_of (has.0 i))) (has.1 i)) ∙ ap (λ r. r >>= λ output. Ok (made.Answer request.id output)) rows ∙ (λ i. Ok (made.Answer (sym has.0 i).id a.output)),
      )
  wants_answer own is slot value request found (Err fault) has =
      let refuses : Refuses fault (rows_of table (output_of table request.rpc) value) = subst (λ t. Refuses fault (rows_of t (output_of t request.rpc) value)) is has in
      refused_by (asked.Answer slot value) (services.answer table (Some (invocation_of request)) value) fault
      (λ known. ap (λ (o : Option Invocation). ask (services.answer table (option_map invocation_of o) value) client) found) (refuses_on fault (rows_of table (output_of table request.rpc) value) (λ output. Ok (made.Answer request.id output)) refuses)

  pub no_answer : (slot : ℕ) (value : Data) → held c.handed slot ≡ None → IsRefused tables c (asked.Answer slot value) (Refused EmptySlot)
  no_answer slot value none = λ known. ap (λ (o : Option Invocation). ask (services.answer table (option_map invocation_of o) value) client) none

  -- a listen
  not_listened : (domain : ℕ) (store : Store) (b : Bool) (path : Result (List Step) PathTextFault) (refusal : StepRefusal) → (if b then path_or path else Err NoDevice) ≡ Err refusal → (if b then listen_at domain store path client else refused NoDevice client) ≡ refused refusal client
  not_listened domain store true (Ok path) refusal is = cc
  not_listened domain store true (Err why) refusal is = cc
  not_listened domain store false path refusal is = cc

  no_listen : (slot domain : ℕ) (store : Store) (text : List ℕ) (fault : StepFault) → Refuses fault (path_in tables domain text) → IsRefused tables c (asked.Listen slot domain store text) fault
  no_listen slot domain store text (Refused refusal) is = λ known. not_listened domain store (has_domain tables domain) (read_path (last_in tables domain) text) refusal is
  no_listen slot domain store text NoMemory is = tt

  listening : (slot domain : ℕ) (store : Store) (text : List ℕ) (read : Result Target StepFault) → IsTarget tables domain store text read → Wants tables c (asked.Listen slot domain store text) (wished (λ (t : Target). Listen slot t) read)
  listening slot domain store text (Ok t) has = (
    λ i. asked.Listen slot (sym has.0 i) (sym has.1 i) (sym has.2 i),
    tt,
    ((λ i. read_path (last_in tables (has.0 i)) (has.2 i)) ∙ has.3, ap (has_domain tables) has.0 ∙ has.4),
  )
  listening slot domain store text (Err fault) has = no_listen slot domain store text fault has

  pub wants_listen : (slot domain : ℕ) (store : Store) (text : List ℕ) (read : Result Target StepFault) (result : Result Wish StepFault) → IsTarget tables domain store text read → result ≡ wished (λ (t : Target). Listen slot t) read → Wants tables c (asked.Listen slot domain store text) result
  wants_listen slot domain store text read result has made = subst (Wants tables c (asked.Listen slot domain store text)) (sym made) (listening slot domain store text read has)

-- why there is no target
pub no_domain : (tables : List Versions) (domain : ℕ) (text : List ℕ) → has_domain tables domain ≡ false → Refuses (Refused NoDevice) (path_in tables domain text)
no_domain tables domain text none = ap (λ b. if b then path_or (read_path (last_in tables domain) text) else Err NoDevice) none

pub no_path : (tables : List Versions) (domain : ℕ) (text : List ℕ) (fault : StepFault) → has_domain tables domain ≡ true → Refuses fault (path_or (read_path (last_in tables domain) text)) → Refuses fault (path_in tables domain text)
no_path tables domain text fault has is = subst (Refuses fault) (sym (ap (λ b. if b then path_or (read_path (last_in tables domain) text) else Err NoDevice) has)) is
