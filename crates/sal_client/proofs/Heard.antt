-- How the steps of listeners are answered, and what they leave of a client.
use Rattle.std.proofs.Common.{◌≡◌, ℕ, ◌<◌, true, false, List, Option, None, Some, Result, Ok, Err, if◌then◌else◌, refl, ap, sym, ◌∙◌, subst, arith, inl, inr}
use Rattle.std.specs.Prelude.{IfErr, OnOk}
use Rattle.std.specs.Option.{option_map}
use Rattle.sal_types.specs.declared.value.Store.{Store}
use Rattle.sal_types.specs.declared.value.Step.{Step}
use Rattle.sal_rows.specs.declared.batch.Batch.{Batch as Told}
use Rattle.sal_rows.specs.declared.batch.Opened.{Opened}
use Rattle.sal_pathtext.specs.declared.fault.PathTextFault.{PathTextFault}
use Rattle.sal_pathtext.specs.Read.{read_path}
use Rattle.sal_history.specs.declared.call.Call.{Call}
use Rattle.sal_history.specs.declared.call.Call.TheVariants.{Listen as ListenCall, Take as TakeCall}
use Rattle.sal_history.specs.declared.call.Entry.{Entry}
use Rattle.sal_history.specs.declared.reply.Reply.TheVariants.{Batch, Refused}
use Rattle.sal_history.specs.Listeners.{brings_to}
use Rattle.sal_rows.specs.declared.outcome.CallFault.{CallFault}
use Rattle.sal_script.specs.declared.reply.StepReply.{StepReply}
use Rattle.sal_script.specs.declared.reply.StepRefusal.TheVariants.{NoDevice}
use Rattle.sal_script.specs.Moves.{Listen, Take}
use Rattle.sal_script.specs.Play.{Client, Listener, Slots, at_version, keep_taken, listen_at, meet, refused, set_slot, shared, take_batch}
use Rattle.sal_script.specs.Tables.{Versions, has_domain, last_in}
use Rattle.sal_hub.specs.declared.chain.Chain.{Chain}
use Rattle.sal_hub.specs.declared.listener.ListenerId.{ListenerId}
use Rattle.sal_hub.specs.declared.receipt.Receipt.{Receipt}
use Rattle.sal_hub.specs.Answers.{Made}
use Rattle.sal_hub.specs.HubHistory.{HubHistory, entry_of, more}
use Rattle.sal_hub.specs.Listeners.{IsMade, listener_reply}
use Rattle.sal_client.specs.declared.client.ClientState.{ClientState}
use Rattle.sal_client.specs.declared.follower.Follower.{Follower}
use Rattle.sal_client.specs.declared.wish.RunFault.{RunFault}
use Rattle.sal_client.specs.declared.wish.RunFault.TheVariants as stop
use Rattle.sal_client.specs.Clients.{IsSound, client_of, listeners_in}
use Rattle.sal_client.specs.Followers.{Advances, IsOwnListener, listener_of}
use Rattle.sal_client.specs.Slots.{held}
use Rattle.sal_client.specs.Wishes.{GrowsAtMost, GrowsBy, Stops}
use Rattle.sal_client.proofs.Following.{listener_kept, listener_stays, new_follows, new_listener, new_number, told_follows, told_listener}
use Rattle.sal_client.proofs.Places.{seen-filled}
use Rattle.sal_client.proofs.Soundness.{IsSound-followed, IsSound-more, IsSteady-more, TokensLast}

-- the listener that a call takes for
abbrev id_in : Call → ℕ
id_in (TakeCall n) = n
id_in call = 0

-- ---- the results of the steps

pub met_listen : (tables : List Versions) (known : HubHistory) (client : Client) (slot domain : ℕ) (store : Store) (text : List ℕ) (path : List Step) → read_path (last_in tables domain) text ≡ Ok path → has_domain tables domain ≡ true
    → meet tables known.world known.log client (Listen slot domain store text) ≡ shared (ListenCall domain store path)
met_listen tables known client slot domain store text path read has =
    ap (λ b. if b then listen_at domain store (read_path (last_in tables domain) text) client else refused NoDevice client) has ∙ ap (λ (r : Result (List Step) PathTextFault). listen_at domain store r client) read

pub met_take : (tables : List Versions) (known : HubHistory) (c : ClientState) (slot : ℕ) (f : Follower) → held c.listeners slot ≡ Some f → meet tables known.world known.log (client_of c) (Take slot) ≡ shared (TakeCall f.id.number)
met_take tables known c slot f found = ap (λ (o : Option Follower). take_batch (client_of c) (option_map listener_of o)) found

-- ---- what they leave in the slots

pub kept_listening : (old : ClientState) (after : ℕ → Option Follower) (slot domain : ℕ) (f : Follower) → f.id.domain ≡ domain → after ≡ set_slot slot (Some f) (held old.listeners)
    → record (client_of old) { listeners = λ k. option_map listener_of (after k) }
    ≡ record (client_of old) { listeners = set_slot slot (Some (record { id = f.id.number; domain = domain; store = f.store; path = f.path; version = f.mirror.version })) (listeners_in old) }
kept_listening old after slot domain f of filled =
    let seen = seen-filled listener_of (held old.listeners) after slot f filled in
    (λ i. record (client_of old) { listeners = seen i })
    ∙ (λ i. record (client_of old) { listeners = set_slot slot (Some (let l : Listener = record { id = f.id.number; domain = of i; store = f.store; path = f.path; version = f.mirror.version } in l)) (listeners_in old) })

pub kept_taken : (old : ClientState) (after : ℕ → Option Follower) (slot : ℕ) (f g : Follower) (b : Told) → held old.listeners slot ≡ Some f → Advances b f g → after ≡ set_slot slot (Some g) (held old.listeners)
    → record (client_of old) { listeners = λ k. option_map listener_of (after k) } ≡ keep_taken slot b.to (client_of old)
kept_taken old after slot f g b found goes filled =
    let seen = seen-filled listener_of (held old.listeners) after slot g filled in
    let same : listener_of g ≡ at_version b.to (listener_of f) =
    λ i. (let l : Listener = record { id = (goes.id i).number; domain = (goes.id i).domain; store = goes.store i; path = goes.path i; version = goes.version i } in l) in
    (λ i. record (client_of old) { listeners = seen i })
    ∙ (λ i. record (client_of old) { listeners = set_slot slot (Some (same i)) (listeners_in old) })
    ∙ (λ i. record (client_of old) { listeners = set_slot slot (option_map (at_version b.to) (option_map listener_of (sym found i))) (listeners_in old) })

-- ---- a client stays sound

module _ (lasts : TokensLast) (known known' : HubHistory) (old new : ClientState) (slot : ℕ) (sound : IsSound known old) (number : new.number ≡ old.number) (txs : held new.transactions ≡ held old.transactions) (rs : held new.receipts ≡ held old.receipts) (cs : held new.chains ≡ held old.chains) (ids : held new.invoked ≡ held old.invoked) where
  -- with a listener that was made
  pub sound_listening : (domain : ℕ) (store : Store) (path : List Step) (id : ListenerId) (o : Opened) → Made known known' (entry_of known old.number (ListenCall domain store path)) (listener_reply domain path (id, o)) → id.domain ≡ domain
      → IsMade known' id (record { client = old.number; domain = domain; store = store; path = path })
      → held new.listeners ≡ set_slot slot (Some (record { id = id; store = store; path = path; mirror = record { version = o.version; rows = o.rows } })) (held old.listeners) → IsSound known' new
  sound_listening domain store path id o made of is filled =
      let e : Entry = entry_of known old.number (ListenCall domain store path) in
      let f : Follower = record { id = id; store = store; path = path; mirror = record { version = o.version; rows = o.rows } } in
      let was : IsSound (more known e) old = IsSound-more lasts known e old refl sound in
      let mine : IsMade (more known e) id (record { client = old.number; domain = domain; store = store; path = path }) =
      subst (λ (k : HubHistory). IsMade k id (record { client = old.number; domain = domain; store = store; path = path })) made.log is in
      subst (λ (k : HubHistory). IsSound k new) (sym made.log)
      (IsSound-followed (more known e) old new slot f was.steady
      (λ k g differs at.
      let less : g.id.number < id.number = new_number known old.number domain store path (id, o) made.reply g.id.number _ (sound.listeners k g at).made in
      (was.listeners k g at, λ same. absurd (omega (arith, less, same))))
      (λ j k g h not not' at at' same. sound.apart j k g h at at' same) was.receipts was.chains was.invoked
      (new_follows known old.number domain store path (id, o) made.reply of f refl) (new_listener known old.number domain store path (id, o) made.reply of f refl mine) txs rs cs ids number filled)

  -- with one that took a batch
  pub sound_taken : (f g : Follower) (b : Told) → held old.listeners slot ≡ Some f → Made known known' (entry_of known old.number (TakeCall f.id.number)) (Batch f.id.domain b) → Advances b f g
      → held new.listeners ≡ set_slot slot (Some g) (held old.listeners) → IsSound known' new
  sound_taken f g b found made goes filled =
      let e : Entry = entry_of known old.number (TakeCall f.id.number) in
      let own = sound.listeners slot f found in
      let same_id : g.id.number ≡ f.id.number = ap (λ (id : ListenerId). id.number) goes.id in
      let other : (k : ℕ) (h : Follower) → (k ≡ slot → ⊥) → held old.listeners k ≡ Some h → h.id.number ≡ f.id.number → ⊥ = λ k h differs at same. differs (sound.apart k slot h f at found same) in
      subst (λ (k : HubHistory). IsSound k new) (sym made.log)
      (IsSound-followed (more known e) old new slot g (IsSteady-more lasts known e old sound.steady)
      (λ k h differs at. (
        listener_stays known e old.number h (λ mine taken. other k h differs at (sym (taken_id taken))) (sound.listeners k h at),
        λ same. other k h differs at (same ∙ same_id),
      ))
      (λ j k h i not not' at at' same. sound.apart j k h i at at' same) (λ k r at. lasts.1 known e r (sound.receipts k r at)) (λ k chain at. lasts.2 known e chain (sound.chains k chain at)) (λ k id at. lasts.3 known e id (sound.invoked k id at))
      (told_follows known old.number f own b made.reply g goes (sound.steady.followers slot f found)) (told_listener known old.number f own b made.reply g goes) txs rs cs ids number filled)
    where
      taken_id : {n m : ℕ} → TakeCall n ≡ TakeCall m → n ≡ m
      taken_id e = ap id_in e

-- a take that was refused leaves all as it was
pub sound_refused : TokensLast → (known known' : HubHistory) (old : ClientState) (n : ℕ) (fault : CallFault) → IsSound known old → Made known known' (entry_of known old.number (TakeCall n)) (Refused fault) → IsSound known' old
sound_refused lasts known known' old n fault sound made =
    let e : Entry = entry_of known old.number (TakeCall n) in
    subst (λ (k : HubHistory). IsSound k old) (sym made.log) (record {
      steady = IsSteady-more lasts known e old sound.steady;
      receipts = λ k r at. lasts.1 known e r (sound.receipts k r at);
      chains = λ k chain at. lasts.2 known e chain (sound.chains k chain at);
      invoked = λ k id at. lasts.3 known e id (sound.invoked k id at);
      listeners = λ k f at. listener_kept known e old.number f (ap (λ r. brings_to (TakeCall n) r f.id.number) made.reply) (sound.listeners k f at);
      apart = sound.apart;
    })

-- ---- entries

-- a call leaves at most one entry
pub grows_or_stops : (result : Result StepReply RunFault) (c : ℕ) (known known' : HubHistory) → OnOk result (GrowsBy c known known') → IfErr result (Stops c known known') → GrowsAtMost c known known'
grows_or_stops (Ok r) c known known' grows stops = inr grows
grows_or_stops (Err stop.HistoryFull) c known known' grows stops = inl stops.1
grows_or_stops (Err stop.NoMemory) c known known' grows stops = stops
