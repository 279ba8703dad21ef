-- What a client's listeners keep along a log: the log has them, and none is ahead of it.
use Rattle.std.proofs.Common.{◌≡◌, ℕ, ◌+◌, Bool, true, false, List, [], ◌∷◌, ◌++◌, length, Option, None, Some, Result, Ok, Err, if◌then◌else◌, refl, ap, sym, ◌∙◌, subst, arith}
use Rattle.std.specs.Prelude.{nat_eq}
use Rattle.std.specs.Option.{option_map, option_map_or}
use Rattle.std.specs.List.{cons_option}
use Rattle.std.proofs.lemmas.List.Elements.{filter_map-append}
use Rattle.std.proofs.lemmas.List.Sums.{fold-append}
use Rattle.std.proofs.lemmas.Option.{same_Some}
use Rattle.sal_types.specs.declared.value.Store.{Store}
use Rattle.sal_types.specs.declared.value.Step.{Step}
use Rattle.sal_rows.specs.declared.outcome.CallFault.{CallFault}
use Rattle.sal_rows.specs.declared.outcome.CallFault.TheVariants.{NoListener}
use Rattle.sal_history.specs.declared.call.Call.{Call}
use Rattle.sal_history.specs.declared.call.Call.TheVariants as made
use Rattle.sal_history.specs.declared.call.Entry.{Entry}
use Rattle.sal_history.specs.declared.reply.Reply.{Reply}
use Rattle.sal_history.specs.declared.reply.Reply.TheVariants.{Begun, Chain, Accepted as Done, Receipt, Refused, CallMade, Request}
use Rattle.sal_history.specs.Listeners.{Listening, has_listener, listener_at, listeners, listens}
use Rattle.sal_history.specs.Numbered.{numbered}
use Rattle.sal_history.specs.World.{Domain}
use Rattle.sal_history.specs.History.{Answered, answer, answered_as, batch_of, commits, history, listen_refusal, listening, refused_or, reply_to, taken}
use Rattle.sal_history.proofs.Numbered.{numbered-last}
use Rattle.sal_pathtext.specs.declared.fault.PathTextFault.{PathTextFault}
use Rattle.sal_pathtext.specs.Read.{read_path}
use Rattle.sal_script.specs.Moves.{Move, Begin, Put, Merge, Delete, Read, Exists, Submit, Cancel, Settle, OpenChain, ChainBegin, CloseChain, Pump, Listen, Take, Unlisten, Mirror, Provide, Withdraw, Invoke, NextCall, Answer, Collect, Subscribe, Offer, TakeNotes, Mount, Unmount, MountAt, Mark, After, Upgrade}
use Rattle.sal_script.specs.Play.{Spot, spot_after, Client, Listener, Meeting, Slots, at_version, keep, listen, listen_at, local, meet, refused, set_slot, shared, take_batch}
use Rattle.sal_script.specs.Tables.{Versions, has_domain, last_in}
use Rattle.sal_script.specs.declared.reply.StepRefusal.TheVariants.{NoDevice}
use Rattle.sal_script.specs.Along.{IsListening, ListensIn}
use Rattle.sal_script.proofs.Growing.{listener_later, more_commits}

-- over a longer log
listening_longer : (world : List Domain) (c : ℕ) (log more : List Entry) (l : Listener) → IsListening world c log l → IsListening world c (log ++ more) l
listening_longer world c log more l is = record {
  made = listener_later world log more l.id (record { client = c; domain = l.domain; store = l.store; path = l.path }) is.made;
  reached = omega (arith, is.reached, more_commits world log more l.domain);
}

pub listens_longer : (world : List Domain) (c : ℕ) (log more : List Entry) (client : Client) → ListensIn world c log client → ListensIn world c (log ++ more) client
listens_longer world c log more client was slot l at = listening_longer world c log more l (was slot l at)

-- the same, of a client with the same listeners
pub listens_same : (world : List Domain) (c : ℕ) (log : List Entry) (old new : Client) → new.listeners ≡ old.listeners → ListensIn world c log old → ListensIn world c log new
listens_same world c log old new same was slot l at = was slot l (ap (λ (slots : Slots Listener). slots slot) (sym same) ∙ at)

-- with another listener in a slot
listens_filled : (world : List Domain) (c : ℕ) (log : List Entry) (client : Client) (slot : ℕ) (o : Option Listener) → ((l : Listener) → o ≡ Some l → IsListening world c log l) → ListensIn world c log client
    → ListensIn world c log (record client { listeners = set_slot slot o client.listeners })
listens_filled world c log client slot o is was k l at = by (nat_eq k slot) at
  where
    by : (b : Bool) → (if b then o else client.listeners k) ≡ Some l → IsListening world c log l
    by true e = is l e
    by false e = was k l e

-- ---- what the calls leave

-- only these steps change the slots of listeners
abbrev is_listening : Move → Bool
is_listening (Listen slot domain store path) = true
is_listening (Take slot) = true
is_listening step = false

same_listeners : (spot : Spot) (step : Move) (r : Reply) (client : Client) → is_listening step ≡ false → (keep spot step r client).listeners ≡ client.listeners
same_listeners spot (Begin slot domain mode) (Begun commit on) client quiet = refl
same_listeners spot (ChainBegin chain slot mode) (Begun commit on) client quiet = refl
same_listeners spot (OpenChain chain domain) (Chain id) client quiet = refl
same_listeners spot (Listen slot domain store path) r client quiet = cc
same_listeners spot (Take slot) r client quiet = cc
same_listeners spot (Submit slot) (Receipt number) client quiet = refl
same_listeners spot (Cancel slot) Done client quiet = refl
same_listeners spot (Invoke slot name context value) (CallMade id) client quiet = refl
same_listeners spot (NextCall slot) (Request request) client quiet = refl
same_listeners spot step r client quiet = refl

-- the call of a listen
listen_call : (tables : List Versions) (domain : ℕ) (store : Store) (path : Result (List Step) PathTextFault) (client : Client) (call : Call) → listen tables domain store path client ≡ shared call → (p : List Step) × (call ≡ made.Listen domain store p)
listen_call tables domain store path client call met = by (has_domain tables domain) path met
  where
    call_in : Meeting → Call
    call_in (shared x) = x
    call_in (local r next) = made.Pump

    by : (b : Bool) (read : Result (List Step) PathTextFault) → (if b then listen_at domain store read client else refused NoDevice client) ≡ shared call → (p : List Step) × (call ≡ made.Listen domain store p)
    by true (Ok p) e = (p, sym (ap call_in e))
    by true (Err fault) e = cc
    by false read e = cc

take_call : (client : Client) (listener : Option Listener) (call : Call) → take_batch client listener ≡ shared call → (l : Listener) × (listener ≡ Some l) × (call ≡ made.Take l.id)
take_call client None call met = cc
take_call client (Some l) call met = (l, refl, sym (ap call_in met))
  where
    call_in : Meeting → Call
    call_in (shared x) = x
    call_in (local r next) = made.Pump

module _ (world : List Domain) (c : ℕ) (log : List Entry) (number : ℕ) (client : Client) (was : ListensIn world c log client) where
  abbrev so_far : List Answered
  so_far = history world log

  abbrev entry_of : Call → Entry
  entry_of call = record { client = c; number = number; call = call }

  -- the log with the entry, and its answer
  abbrev grown : Call → List Entry
  grown call = log ++ entry_of call ∷ []

  -- what the client keeps of this answer
  abbrev KeepsBy : Call → Move → Reply → Type 0
  KeepsBy call step r = ListensIn world c (grown call) (keep (spot_after world log) step r client)

  unchanged : (call : Call) → ListensIn world c (grown call) client
  unchanged call = listens_longer world c log (entry_of call ∷ []) client was

  -- ---- a listen

  module _ (slot domain : ℕ) (store : Store) (text : List ℕ) (p : List Step) where
    abbrev call : Call
    call = made.Listen domain store p

    abbrev id : ℕ
    id = length (listeners so_far) + 1

    abbrev newest : ℕ
    newest = length (commits so_far domain)

    -- the listener that the entry makes, where it is answered so
    new_listener : reply_to world so_far c call ≡ listening world so_far domain store p → listener_at (history world (grown call)) id ≡ Some (record { client = c; domain = domain; store = store; path = p })
    new_listener is =
        let now : Answered = answered_as world so_far (entry_of call) (reply_to world so_far c call) in
        let one : listens c call (reply_to world so_far c call) ≡ Some (record { client = c; domain = domain; store = store; path = p }) = ap (listens c call) is in
        ap (λ (answered : List Answered). listener_at answered id) (fold-append (answer world) [] log (entry_of call ∷ []))
        ∙ ap (λ (ls : List Listening). numbered ls id) (filter_map-append (λ (a : Answered). listens a.entry.client a.entry.call a.reply) so_far (now ∷ []))
        ∙ ap (λ (o : Option Listening). numbered (listeners so_far ++ cons_option o []) id) one
        ∙ numbered-last (listeners so_far) (record { client = c; domain = domain; store = store; path = p })

    listen_keeps : (o : Option CallFault) → reply_to world so_far c call ≡ refused_or o (listening world so_far domain store p) → KeepsBy call (Listen slot domain store text) (refused_or o (listening world so_far domain store p))
    listen_keeps (Some fault) is = unchanged call
    listen_keeps None is =
        let l : Listener = record { id = id; domain = domain; store = store; path = p; version = newest } in
        listens_filled world c (grown call) client slot (Some l)
        (λ x e. subst (IsListening world c (grown call)) (same_Some l x e) (record { made = new_listener is; reached = more_commits world log (entry_of call ∷ []) domain }))
        (unchanged call)

  -- ---- a take

  module _ (slot : ℕ) (l : Listener) (there : client.listeners slot ≡ Some l) where
    abbrev listened : Listening
    listened = record { client = c; domain = l.domain; store = l.store; path = l.path }

    moved : KeepsBy (made.Take l.id) (Take slot) (batch_of world so_far l.id listened)
    moved =
        let newest : ℕ = length (commits so_far l.domain) in
        let later : List Entry = entry_of (made.Take l.id) ∷ [] in
        let is = listening_longer world c log later l (was slot l there) in
        listens_filled world c (grown (made.Take l.id)) client slot (option_map (at_version newest) (client.listeners slot))
        (λ x e.
        let same : at_version newest l ≡ x = same_Some (at_version newest l) x (ap (option_map (at_version newest)) (sym there) ∙ e) in
        subst (IsListening world c (grown (made.Take l.id))) same (record { made = is.made; reached = more_commits world log later l.domain }))
        (unchanged (made.Take l.id))

    take_keeps : (b : Bool) → KeepsBy (made.Take l.id) (Take slot) (if b then taken world so_far l.id else Refused (NoListener l.id))
    take_keeps false = unchanged (made.Take l.id)
    take_keeps true =
        subst (λ (o : Option Listening). KeepsBy (made.Take l.id) (Take slot) (option_map_or (batch_of world so_far l.id) o (Refused (NoListener l.id)))) (sym (was slot l there).made) moved

  -- ---- any shared call of the client's step

  quiet : (step : Move) (call : Call) → is_listening step ≡ false → KeepsBy call step (reply_to world so_far c call)
  quiet step call is = listens_same world c (grown call) client (keep (spot_after world log) step (reply_to world so_far c call) client) (same_listeners (spot_after world log) step (reply_to world so_far c call) client is) (unchanged call)

  pub keep_listens : (tables : List Versions) (step : Move) (call : Call) → meet tables world log client step ≡ shared call → KeepsBy call step (reply_to world so_far c call)
  keep_listens tables (Listen slot domain store text) call met =
      let found = listen_call tables domain store (read_path (last_in tables domain) text) client call met in
      subst (λ (x : Call). KeepsBy x (Listen slot domain store text) (reply_to world so_far c x)) (sym found.1) (listen_keeps slot domain store text found.0 (listen_refusal world so_far domain) refl)
  keep_listens tables (Take slot) call met =
      let found = take_call client (client.listeners slot) call met in
      subst (λ (x : Call). KeepsBy x (Take slot) (reply_to world so_far c x)) (sym found.2) (take_keeps slot found.0 found.1 (has_listener so_far c found.0.id))
  keep_listens tables (Begin slot domain mode) call met = quiet (Begin slot domain mode) call refl
  keep_listens tables (Put slot store path value) call met = quiet (Put slot store path value) call refl
  keep_listens tables (Merge slot store path value) call met = quiet (Merge slot store path value) call refl
  keep_listens tables (Delete slot store path) call met = quiet (Delete slot store path) call refl
  keep_listens tables (Read slot store path) call met = quiet (Read slot store path) call refl
  keep_listens tables (Exists slot store path) call met = quiet (Exists slot store path) call refl
  keep_listens tables (Submit slot) call met = quiet (Submit slot) call refl
  keep_listens tables (Cancel slot) call met = quiet (Cancel slot) call refl
  keep_listens tables (Settle slot) call met = quiet (Settle slot) call refl
  keep_listens tables (OpenChain chain domain) call met = quiet (OpenChain chain domain) call refl
  keep_listens tables (ChainBegin chain slot mode) call met = quiet (ChainBegin chain slot mode) call refl
  keep_listens tables (CloseChain chain) call met = quiet (CloseChain chain) call refl
  keep_listens tables Pump call met = quiet Pump call refl
  keep_listens tables (Unlisten slot) call met = quiet (Unlisten slot) call refl
  keep_listens tables (Mirror slot) call met = quiet (Mirror slot) call refl
  keep_listens tables (Provide name context) call met = quiet (Provide name context) call refl
  keep_listens tables (Withdraw name context) call met = quiet (Withdraw name context) call refl
  keep_listens tables (Invoke slot name context value) call met = quiet (Invoke slot name context value) call refl
  keep_listens tables (NextCall slot) call met = quiet (NextCall slot) call refl
  keep_listens tables (Answer slot value) call met = quiet (Answer slot value) call refl
  keep_listens tables (Collect slot) call met = quiet (Collect slot) call refl
  keep_listens tables (Subscribe name) call met = quiet (Subscribe name) call refl
  keep_listens tables (Offer name value) call met = quiet (Offer name value) call refl
  keep_listens tables TakeNotes call met = quiet TakeNotes call refl
  keep_listens tables (Mount device path) call met = quiet (Mount device path) call refl
  keep_listens tables (Unmount domain) call met = quiet (Unmount domain) call refl
  keep_listens tables (MountAt path) call met = quiet (MountAt path) call refl
  keep_listens tables (Mark mark) call met = quiet (Mark mark) call refl
  keep_listens tables (After mark) call met = quiet (After mark) call refl
  keep_listens tables (Upgrade version) call met = quiet (Upgrade version) call refl
