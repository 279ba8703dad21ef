-- What a client keeps of the log stays sound when the log grows and when its slots change.
use Rattle.std.proofs.Common.{◌≡◌, ℕ, ◌+◌, Bool, true, false, List, [], ◌∷◌, ◌++◌, length, Option, None, Some, refl, ap, sym, ◌∙◌, subst, arith, append_assoc, append-nil, if◌then◌else◌, nat_eq, true≢false, inl, inr, ◌⊎◌}
use Rattle.std.specs.Prelude.{unwrap_or}
use Rattle.std.proofs.lemmas.Bool.{eq-eqb, eqb-true}
use Rattle.std.proofs.lemmas.Bool.Decides.{nat_tests}
use Rattle.std.proofs.lemmas.List.Sums.{sum_by-cons}
use Rattle.std.proofs.lemmas.Option.{same_Some}
use Rattle.sal_types.specs.declared.value.Store.{Store}
use Rattle.sal_rows.specs.declared.outcome.Mode.{Mode}
use Rattle.sal_tree.specs.declared.commit.Pair.{Pair}
use Rattle.sal_tx.specs.declared.begun.Begun.{Begun}
use Rattle.sal_tx.specs.declared.tx.Tx.{Tx}
use Rattle.sal_tx.specs.Views.{rows_in}
use Rattle.sal_history.specs.declared.call.Entry.{Entry}
use Rattle.sal_history.specs.History.{base_tree, entries_of, nowhere}
use Rattle.sal_history.specs.declared.call.Call.{Call}
use Rattle.sal_history.specs.declared.call.Call.TheVariants.{Take}
use Rattle.sal_history.specs.Submissions.{Base}
use Rattle.sal_history.specs.World.{Domain}
use Rattle.sal_script.specs.Play.{set_slot}
use Rattle.sal_script.specs.Tables.{Versions, table_at, versions_of}
use Rattle.sal_hub.specs.declared.call_id.CallId.{CallId}
use Rattle.sal_hub.specs.declared.chain.Chain.{Chain}
use Rattle.sal_hub.specs.declared.receipt.Receipt.{Receipt}
use Rattle.sal_hub.specs.HubHistory.{HubHistory, more}
use Rattle.sal_hub.specs.Tokens.{IsBegun, IsCall, IsChain, IsGiven, begun_of, base_of, mode_of}
use Rattle.sal_client.specs.declared.client.ClientState.{ClientState}
use Rattle.sal_client.specs.declared.follower.Follower.{Follower}
use Rattle.sal_client.specs.Clients.{HasSchema, IsOwn, IsSound, IsSteady, IsWithin}
use Rattle.sal_client.specs.Followers.{Follows, IsOwnListener}
use Rattle.sal_client.specs.Slots.{held}
use Rattle.sal_client.proofs.Domains.{length-tables, table_at-of}
use Rattle.sal_client.proofs.Following.{follows_on, listener_stays}
use Rattle.sal_client.proofs.Places.{each_emptied, each_filled}

-- the laws of the hub's tokens
abbrev pub BegunLasts : Type 0
BegunLasts = (known : HubHistory) (e : Entry) (begun : Begun) (mode : Mode) (base : Pair) → IsBegun known begun mode base → IsBegun (more known e) begun mode base

abbrev pub GivenLasts : Type 0
GivenLasts = (known : HubHistory) (e : Entry) (receipt : Receipt) → IsGiven known receipt → IsGiven (more known e) receipt

abbrev pub OpenedLasts : Type 0
OpenedLasts = (known : HubHistory) (e : Entry) (chain : Chain) → IsChain known chain → IsChain (more known e) chain

abbrev pub CalledLasts : Type 0
CalledLasts = (known : HubHistory) (e : Entry) (id : CallId) → IsCall known id → IsCall (more known e) id

abbrev pub TokensLast : Type 0
TokensLast = BegunLasts × GivenLasts × OpenedLasts × CalledLasts

abbrev pub is_take : Call → Bool
is_take (Take id) = true
is_take call = false

-- entries of which none is the client's
none_of : (e : Entry) (later : List Entry) (c : ℕ) → entries_of (e ∷ later) c ≡ 0 → (e.client ≡ c → ⊥) × (entries_of later c ≡ 0)
none_of e later c none = by (nat_eq e.client c) refl (sym (sum_by-cons (λ (x : Entry). if nat_eq x.client c then 1 else 0) e later) ∙ none)
  where
    by : (b : Bool) → nat_eq e.client c ≡ b → (if b then 1 else 0) + entries_of later c ≡ 0 → (e.client ≡ c → ⊥) × (entries_of later c ≡ 0)
    by true is zero_is = absurd (omega (arith, zero_is))
    by false is zero_is = (λ own. true≢false (sym (eq-eqb e.client c own) ∙ is), omega (arith, zero_is))

module _ (lasts : TokensLast) where
  IsOwn-more : (known : HubHistory) (e : Entry) (tx : Tx) → IsOwn known tx → IsOwn (more known e) tx
  IsOwn-more known e tx is = record { token = lasts.0 known e (begun_of tx) (mode_of tx) (base_of tx) is.token; within = is.within }

  -- whatever the entry
  pub IsSteady-more : (known : HubHistory) (e : Entry) (c : ClientState) → IsSteady known c → IsSteady (more known e) c
  IsSteady-more known e c is = record {
    transactions = λ k tx at. IsOwn-more known e tx (is.transactions k tx at);
    followers = λ k f at. follows_on known e f (is.followers k f at);
  }

  pub steady_longer : (known : HubHistory) (later : List Entry) (c : ClientState) → IsSteady known c → IsSteady (record { world = known.world; log = known.log ++ later }) c
  steady_longer known [] c is = subst (λ (log : List Entry). IsSteady (record { world = known.world; log = log }) c) (sym (append-nil known.log)) is
  steady_longer known (e ∷ later) c is =
      subst (λ (log : List Entry). IsSteady (record { world = known.world; log = log }) c) (append_assoc known.log (e ∷ []) later) (steady_longer (more known e) later c (IsSteady-more known e c is))

  -- an entry that takes nothing from a listener of the client
  pub IsSound-quiet : (known : HubHistory) (e : Entry) (c : ClientState) → ((id : ℕ) → e.client ≡ c.number → e.call ≡ Take id → ⊥) → IsSound known c → IsSound (more known e) c
  IsSound-quiet known e c quiet is = record {
    steady = IsSteady-more known e c is.steady;
    receipts = λ k r at. lasts.1 known e r (is.receipts k r at);
    chains = λ k chain at. lasts.2 known e chain (is.chains k chain at);
    invoked = λ k id at. lasts.3 known e id (is.invoked k id at);
    listeners = λ k f at. listener_stays known e c.number f (quiet f.id.number) (is.listeners k f at);
    apart = is.apart;
  }

  -- an entry of another client
  pub IsSound-other : (known : HubHistory) (e : Entry) (c : ClientState) → (e.client ≡ c.number → ⊥) → IsSound known c → IsSound (more known e) c
  IsSound-other known e c other is = IsSound-quiet known e c (λ id own taken. other own) is

  -- the entries of other clients
  pub IsSound-others : (known : HubHistory) (later : List Entry) (c : ClientState) → entries_of later c.number ≡ 0 → IsSound known c → IsSound (record { world = known.world; log = known.log ++ later }) c
  IsSound-others known [] c none is = subst (λ (log : List Entry). IsSound (record { world = known.world; log = log }) c) (sym (append-nil known.log)) is
  IsSound-others known (e ∷ later) c none is =
      let split = none_of e later c.number none in
      subst (λ (log : List Entry). IsSound (record { world = known.world; log = log }) c) (append_assoc known.log (e ∷ []) later)
      (IsSound-others (more known e) later c split.1 (IsSound-other known e c split.0 is))

  -- an own entry that takes nothing
  pub IsSound-more : (known : HubHistory) (e : Entry) (c : ClientState) → is_take e.call ≡ false → IsSound known c → IsSound (more known e) c
  IsSound-more known e c quiet is = IsSound-quiet known e c (λ id own taken. true≢false (sym (ap is_take taken) ∙ quiet)) is

-- a steady client's transactions have the versions by which they began
pub HasSchema-sound : (tables : List Versions) (known : HubHistory) (c : ClientState) → IsSteady known c → tables ≡ versions_of known.world → HasSchema tables c
HasSchema-sound tables known c is of k tx at =
    let own = is.transactions k tx at in
    record {
      within = subst (λ n. IsWithin n (begun_of tx).domain) (sym (length-tables known.world) ∙ ap (λ (ts : List Versions). length ts) (sym of)) own.within;
      schema = own.token.schema ∙ sym (table_at-of known.world (begun_of tx).version (begun_of tx).domain) ∙ ap (λ (ts : List Versions). table_at ts (begun_of tx).version (begun_of tx).domain) (sym of);
    }

-- the trees that are a transaction's base
pub based : {mode : Mode} (known : HubHistory) (begun : Begun) (trees : Pair) → IsBegun known begun mode trees → (s : Store) → base_tree known.world known.log begun.place s ≡ rows_in trees s
based known begun trees is s = ap (λ (b : Option Base). (unwrap_or b nowhere).trees s) is.began

-- ---- one slot changed

-- the listeners and the requests are the same
abbrev pub SameRest : ClientState → ClientState → Type 0
SameRest old new = (new.number ≡ old.number) × (held new.listeners ≡ held old.listeners) × (held new.invoked ≡ held old.invoked)

abbrev at_slot : {X : Type 0} (h after : ℕ → Option X) (k : ℕ) (x : X) → after ≡ h → after k ≡ Some x → h k ≡ Some x
at_slot {X} h after k x same at = ap (λ (f : ℕ → Option X). f k) (sym same) ∙ at

same_followers : (known : HubHistory) (old new : ClientState) → IsSteady known old → held new.listeners ≡ held old.listeners → (k : ℕ) (f : Follower) → held new.listeners k ≡ Some f → Follows known f
same_followers known old new is same k f at = is.followers k f (at_slot (held old.listeners) (held new.listeners) k f same at)

pub IsSteady-same : (known : HubHistory) (old new : ClientState) → IsSteady known old → held new.transactions ≡ held old.transactions → held new.listeners ≡ held old.listeners → IsSteady known new
IsSteady-same known old new is txs listeners = record {
  transactions = λ k tx at. is.transactions k tx (at_slot (held old.transactions) (held new.transactions) k tx txs at);
  followers = same_followers known old new is listeners;
}

pub IsSteady-filled : (known : HubHistory) (old new : ClientState) (slot : ℕ) (tx : Tx) → IsSteady known old → IsOwn known tx → held new.transactions ≡ set_slot slot (Some tx) (held old.transactions) → held new.listeners ≡ held old.listeners → IsSteady known new
IsSteady-filled known old new slot tx is own filled listeners = record {
  transactions = each_filled (IsOwn known) (held old.transactions) (held new.transactions) slot tx filled own is.transactions;
  followers = same_followers known old new is listeners;
}

IsSteady-emptied : (known : HubHistory) (old new : ClientState) (slot : ℕ) → IsSteady known old → held new.transactions ≡ set_slot slot None (held old.transactions) → held new.listeners ≡ held old.listeners → IsSteady known new
IsSteady-emptied known old new slot is emptied listeners = record {
  transactions = each_emptied (IsOwn known) (held old.transactions) (held new.transactions) slot emptied is.transactions;
  followers = same_followers known old new is listeners;
}

same_chains : (known : HubHistory) (old new : ClientState) → IsSound known old → held new.chains ≡ held old.chains → (k : ℕ) (chain : Chain) → held new.chains k ≡ Some chain → IsChain known chain
same_chains known old new is same k chain at = is.chains k chain (at_slot (held old.chains) (held new.chains) k chain same at)

same_receipts : (known : HubHistory) (old new : ClientState) → IsSound known old → held new.receipts ≡ held old.receipts → (k : ℕ) (r : Receipt) → held new.receipts k ≡ Some r → IsGiven known r
same_receipts known old new is same k r at = is.receipts k r (at_slot (held old.receipts) (held new.receipts) k r same at)

same_invoked : (known : HubHistory) (old new : ClientState) → IsSound known old → held new.invoked ≡ held old.invoked → (k : ℕ) (id : CallId) → held new.invoked k ≡ Some id → IsCall known id
same_invoked known old new is same k id at = is.invoked k id (at_slot (held old.invoked) (held new.invoked) k id same at)

same_own : (known : HubHistory) (old new : ClientState) → IsSound known old → new.number ≡ old.number → held new.listeners ≡ held old.listeners → (k : ℕ) (f : Follower) → held new.listeners k ≡ Some f → IsOwnListener known new.number f
same_own known old new is number same k f at = subst (λ n. IsOwnListener known n f) (sym number) (is.listeners k f (at_slot (held old.listeners) (held new.listeners) k f same at))

same_apart : (known : HubHistory) (old new : ClientState) → IsSound known old → held new.listeners ≡ held old.listeners → (j k : ℕ) (f g : Follower) → held new.listeners j ≡ Some f → held new.listeners k ≡ Some g → f.id.number ≡ g.id.number → j ≡ k
same_apart known old new is same j k f g at at' id = is.apart j k f g (at_slot (held old.listeners) (held new.listeners) j f same at) (at_slot (held old.listeners) (held new.listeners) k g same at') id

pub IsSound-filled : (known : HubHistory) (old new : ClientState) (slot : ℕ) (tx : Tx) → IsSound known old → IsOwn known tx → held new.transactions ≡ set_slot slot (Some tx) (held old.transactions) → held new.receipts ≡ held old.receipts → held new.chains ≡ held old.chains → SameRest old new → IsSound known new
IsSound-filled known old new slot tx is own filled receipts chains rest = record {
  steady = IsSteady-filled known old new slot tx is.steady own filled rest.1;
  receipts = same_receipts known old new is receipts;
  chains = same_chains known old new is chains;
  invoked = same_invoked known old new is rest.2;
  listeners = same_own known old new is rest.0 rest.1;
  apart = same_apart known old new is rest.1;
}

pub IsSound-emptied : (known : HubHistory) (old new : ClientState) (slot : ℕ) → IsSound known old → held new.transactions ≡ set_slot slot None (held old.transactions) → held new.receipts ≡ held old.receipts → held new.chains ≡ held old.chains → SameRest old new → IsSound known new
IsSound-emptied known old new slot is emptied receipts chains rest = record {
  steady = IsSteady-emptied known old new slot is.steady emptied rest.1;
  receipts = same_receipts known old new is receipts;
  chains = same_chains known old new is chains;
  invoked = same_invoked known old new is rest.2;
  listeners = same_own known old new is rest.0 rest.1;
  apart = same_apart known old new is rest.1;
}

pub IsSound-submitted : (known : HubHistory) (old new : ClientState) (slot : ℕ) (receipt : Receipt) → IsSound known old → IsGiven known receipt → held new.transactions ≡ set_slot slot None (held old.transactions) → held new.receipts ≡ set_slot slot (Some receipt) (held old.receipts) → held new.chains ≡ held old.chains → SameRest old new → IsSound known new
IsSound-submitted known old new slot receipt is given emptied filled chains rest = record {
  steady = IsSteady-emptied known old new slot is.steady emptied rest.1;
  receipts = each_filled (IsGiven known) (held old.receipts) (held new.receipts) slot receipt filled given is.receipts;
  chains = same_chains known old new is chains;
  invoked = same_invoked known old new is rest.2;
  listeners = same_own known old new is rest.0 rest.1;
  apart = same_apart known old new is rest.1;
}

pub IsSound-same : (known : HubHistory) (old new : ClientState) → IsSound known old → held new.transactions ≡ held old.transactions → held new.receipts ≡ held old.receipts → held new.chains ≡ held old.chains → SameRest old new → IsSound known new
IsSound-same known old new is txs receipts chains rest = record {
  steady = IsSteady-same known old new is.steady txs rest.1;
  receipts = same_receipts known old new is receipts;
  chains = same_chains known old new is chains;
  invoked = same_invoked known old new is rest.2;
  listeners = same_own known old new is rest.0 rest.1;
  apart = same_apart known old new is rest.1;
}

pub IsSound-linked : (known : HubHistory) (old new : ClientState) (slot : ℕ) (chain : Chain) → IsSound known old → IsChain known chain → held new.transactions ≡ held old.transactions → held new.receipts ≡ held old.receipts → held new.chains ≡ set_slot slot (Some chain) (held old.chains) → SameRest old new → IsSound known new
IsSound-linked known old new slot chain is own txs receipts filled rest = record {
  steady = IsSteady-same known old new is.steady txs rest.1;
  receipts = same_receipts known old new is receipts;
  chains = each_filled (IsChain known) (held old.chains) (held new.chains) slot chain filled own is.chains;
  invoked = same_invoked known old new is rest.2;
  listeners = same_own known old new is rest.0 rest.1;
  apart = same_apart known old new is rest.1;
}

-- another request in a slot
pub IsSound-invoked : (known : HubHistory) (old new : ClientState) (slot : ℕ) (id : CallId) → IsSound known old → IsCall known id → held new.transactions ≡ held old.transactions → held new.receipts ≡ held old.receipts → held new.chains ≡ held old.chains → new.number ≡ old.number → held new.listeners ≡ held old.listeners → held new.invoked ≡ set_slot slot (Some id) (held old.invoked) → IsSound known new
IsSound-invoked known old new slot id is given txs receipts chains number listeners filled = record {
  steady = IsSteady-same known old new is.steady txs listeners;
  receipts = same_receipts known old new is receipts;
  chains = same_chains known old new is chains;
  invoked = each_filled (IsCall known) (held old.invoked) (held new.invoked) slot id filled given is.invoked;
  listeners = same_own known old new is number listeners;
  apart = same_apart known old new is listeners;
}

-- another listener in a slot, of a number that no other slot has
pub IsSound-followed : (known : HubHistory) (old new : ClientState) (slot : ℕ) (f : Follower) → IsSteady known old → ((k : ℕ) (g : Follower) → (k ≡ slot → ⊥) → held old.listeners k ≡ Some g → IsOwnListener known old.number g × (g.id.number ≡ f.id.number → ⊥))
    → ((j k : ℕ) (g h : Follower) → (j ≡ slot → ⊥) → (k ≡ slot → ⊥) → held old.listeners j ≡ Some g → held old.listeners k ≡ Some h → g.id.number ≡ h.id.number → j ≡ k)
    → ((k : ℕ) (r : Receipt) → held old.receipts k ≡ Some r → IsGiven known r) → ((k : ℕ) (chain : Chain) → held old.chains k ≡ Some chain → IsChain known chain) → ((k : ℕ) (id : CallId) → held old.invoked k ≡ Some id → IsCall known id) → Follows known f → IsOwnListener known old.number f
    → held new.transactions ≡ held old.transactions → held new.receipts ≡ held old.receipts → held new.chains ≡ held old.chains → held new.invoked ≡ held old.invoked → new.number ≡ old.number → held new.listeners ≡ set_slot slot (Some f) (held old.listeners) → IsSound known new
IsSound-followed known old new slot f steady others apart receipts chains invoked follows own txs same_rs same_cs same_ids number filled = record {
  steady = record {
    transactions = λ k tx at. steady.transactions k tx (at_slot (held old.transactions) (held new.transactions) k tx txs at);
    followers = each_filled (Follows known) (held old.listeners) (held new.listeners) slot f filled follows steady.followers;
  };
  receipts = λ k r at. receipts k r (at_slot (held old.receipts) (held new.receipts) k r same_rs at);
  chains = λ k chain at. chains k chain (at_slot (held old.chains) (held new.chains) k chain same_cs at);
  invoked = λ k id at. invoked k id (at_slot (held old.invoked) (held new.invoked) k id same_ids at);
  listeners = λ k g at. subst (λ n. IsOwnListener known n g) (sym number) (elim (in_slot k g at) [
    | inl w ↦ subst (IsOwnListener known old.number) w.1 own
    | inr w ↦ (others k g w.0 w.1).0
  ]);
  apart = λ j k g h at at' id.
      elim (in_slot j g at) [
        | inl w ↦ elim (in_slot k h at') [
          | inl v ↦ w.0 ∙ sym v.0
          | inr v ↦ absurd ((others k h v.0 v.1).1 (sym id ∙ sym (ap (λ (x : Follower). x.id.number) w.1)))
        ]
        | inr w ↦ elim (in_slot k h at') [
          | inl v ↦ absurd ((others j g w.0 w.1).1 (id ∙ sym (ap (λ (x : Follower). x.id.number) v.1)))
          | inr v ↦ apart j k g h w.0 v.0 w.1 v.1 id
        ]
      ];
}
  where
    in_slot : (k : ℕ) (g : Follower) → held new.listeners k ≡ Some g → ((k ≡ slot) × (f ≡ g)) ⊎ ((k ≡ slot → ⊥) × (held old.listeners k ≡ Some g))
    in_slot k g at = by (nat_eq k slot) refl (ap (λ (h : ℕ → Option Follower). h k) (sym filled) ∙ at)
      where
        by : (b : Bool) → nat_eq k slot ≡ b → (if b then Some f else held old.listeners k) ≡ Some g → ((k ≡ slot) × (f ≡ g)) ⊎ ((k ≡ slot → ⊥) × (held old.listeners k ≡ Some g))
        by true is e = inl (eqb-true k slot is, same_Some f g e)
        by false is e = inr (λ same. true≢false (sym (eq-eqb k slot same) ∙ is), e)
