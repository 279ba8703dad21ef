-- Looks into what a client's transactions see, and at what its listeners follow.
use Rattle.std.proofs.Common.{◌≡◌, ℕ, List, Option, None, Some, Result, Ok, Err, refl, ap, sym, ◌∙◌, subst, inl, inr}
use Rattle.std.specs.Prelude.{IfOk, OnOk, Vec}
use Rattle.std.specs.declared.alloc.Global.{Global}
use Rattle.std.specs.Option.{option_map}
use Rattle.sal_types.specs.declared.memory.NoMemory.{NoMemory}
use Rattle.sal_types.specs.declared.value.Store.{Store}
use Rattle.sal_types.specs.declared.value.Step.{Step}
use Rattle.sal_rows.specs.Reads.{recorded}
use Rattle.sal_rows.specs.Apply.{apply_ops}
use Rattle.sal_tx.specs.declared.tx.Tx.{Tx}
use Rattle.sal_tx.specs.declared.tx.Tx.TheVariants as begun
use Rattle.sal_schema.specs.declared.table.SchemaTable.{SchemaTable}
use Rattle.sal_pathtext.specs.declared.fault.PathTextFault.{PathTextFault}
use Rattle.sal_pathtext.specs.Read.{read_path}
use Rattle.sal_script.specs.declared.reply.StepReply.{StepReply}
use Rattle.sal_script.specs.declared.reply.StepReply.TheVariants as reply
use Rattle.sal_script.specs.declared.reply.StepRefusal.{StepRefusal}
use Rattle.sal_script.specs.declared.reply.StepRefusal.TheVariants.{EmptySlot}
use Rattle.sal_script.specs.Moves.{Mirror, Move}
use Rattle.sal_script.specs.Play.{Client, Open, local, look_at, look_reply, look_with, meet, mirror, seen_by, set_slot, with_ops}
use Rattle.sal_script.specs.Tables.{Versions, table_at}
use Rattle.sal_script.specs.Services.{path_or}
use Rattle.sal_hub.specs.HubHistory.{HubHistory}
use Rattle.sal_hub.specs.Tokens.{base_of, begun_of, mode_of, ops_of}
use Rattle.sal_client.specs.declared.client.ClientState.{ClientState}
use Rattle.sal_client.specs.declared.follower.Follower.{Follower}
use Rattle.sal_client.specs.declared.looks.Look.{Look}
use Rattle.sal_client.specs.declared.looks.Look.TheVariants.{Read, Exists}
use Rattle.sal_client.specs.Clients.{HasSchema, IsOfSchema, IsOwn, client_of, open_of, opened}
use Rattle.sal_client.specs.Followers.{listener_of}
use Rattle.sal_client.specs.Looks.{HasLooked, IsLooked, IsSeen, after_look, look_move, shown_by, with_open}
use Rattle.sal_client.specs.Meeting.{Answers, IsAnswered}
use Rattle.sal_client.specs.Slots.{held}
use Rattle.sal_client.specs.declared.slots.Slot.{Slot}
use Rattle.sal_client.proofs.Places.{put_same}
use Rattle.sal_client.proofs.Reading.{path_ok}
use Rattle.sal_client.proofs.Soundness.{based}

looks : (tables : List Versions) (known : HubHistory) (client : Client) (slot : ℕ) (store : Store) (text : List ℕ) (look : Look) → meet tables known.world known.log client (look_move slot store text look) ≡ look_with tables known.world known.log (shown_by look) slot store text client (client.transactions slot)
looks tables known client slot store text Read = refl
looks tables known client slot store text Exists = refl

refused_at : (f : List Step → StepReply) (slot : ℕ) (store : Store) (read : Result (List Step) PathTextFault) (tx : Open) (client : Client) (refusal : StepRefusal) → path_or read ≡ Err refusal → look_at f slot store read tx client ≡ local (reply.Refused refusal) client
refused_at f slot store (Ok path) tx client refusal bad = cc
refused_at f slot store (Err fault) tx client refusal bad = cc

-- a transaction after a look, as the definitions have it
open_looked : (store : Store) (path : List Step) (tx : Tx) → record (open_of tx) { ops = recorded (mode_of tx) store path (ops_of tx) } ≡ open_of (after_look store path tx)
open_looked store path (begun.Read tx) = refl
open_looked store path (begun.Write tx) = refl

module _ (tables : List Versions) (c : ClientState) (slot : ℕ) (store : Store) (text : List ℕ) (look : Look) where
  -- an empty slot
  pub looks_nowhere : held c.transactions slot ≡ None → Answers tables c (look_move slot store text look) (reply.Refused EmptySlot) c
  looks_nowhere none known is of =
      looks tables known (client_of c) slot store text look ∙ ap (λ (o : Option Tx). look_with tables known.world known.log (shown_by look) slot store text (client_of c) (option_map open_of o)) none

  module _ (tx : Tx) (found : held c.transactions slot ≡ Some tx) (own : SchemaTable) (by : own ≡ table_at tables (begun_of tx).version (begun_of tx).domain) (after : ClientState) where
    -- what the transaction shows at a path
    abbrev shown : HubHistory → List Step → StepReply
    shown known path = shown_by look (open_of tx) path (seen_by known.world known.log (open_of tx) store)

    at_tx : (known : HubHistory) → meet tables known.world known.log (client_of c) (look_move slot store text look) ≡ look_at (shown known) slot store (read_path own text) (open_of tx) (client_of c)
    at_tx known =
        looks tables known (client_of c) slot store text look
        ∙ ap (λ (o : Option Tx). look_with tables known.world known.log (shown_by look) slot store text (client_of c) (option_map open_of o)) found
        ∙ ap (λ (t : SchemaTable). look_at (shown known) slot store (read_path t text) (open_of tx) (client_of c)) (sym by)

    pub looks_there : (path : List Step) (r : StepReply) (new : Tx) → path_or (read_path own text) ≡ Ok path → IsSeen tx store path look r → new ≡ after_look store path tx → client_of after ≡ with_open slot new c → Answers tables c (look_move slot store text look) r after
    looks_there path r new good seen looked kept known is of =
        let left : Client = with_ops slot (recorded (mode_of tx) store path (ops_of tx)) (open_of tx) (client_of c) in
        let same = open_looked store path tx ∙ ap open_of (sym looked) in
        at_tx known
        ∙ ap (λ p. look_at (shown known) slot store p (open_of tx) (client_of c)) (path_ok (read_path own text) path good)
        ∙ (λ i. local (look_reply (mode_of tx) (begun_of tx).domain (shown_by look (open_of tx) path (apply_ops (based known (begun_of tx) (base_of tx) (is.transactions slot tx found).token store i) store (ops_of tx)))) left)
        ∙ ap (λ q. local q left) seen
        ∙ (λ i. local r (record (client_of c) { transactions = set_slot slot (Some (same i)) (opened c) }))
        ∙ ap (local r) (sym kept)

    pub looks_badly : (refusal : StepRefusal) → path_or (read_path own text) ≡ Err refusal → client_of after ≡ with_open slot tx c → Answers tables c (look_move slot store text look) (reply.Refused refusal) after
    looks_badly refusal bad kept known is of =
        let filled = put_same (opened c) slot (open_of tx) (ap (option_map open_of) found) in
        at_tx known
        ∙ refused_at (shown known) slot store (read_path own text) (open_of tx) (client_of c) refusal bad
        ∙ (λ i. local (reply.Refused refusal) (record (client_of c) { transactions = sym filled i }))
        ∙ ap (local (reply.Refused refusal)) (sym kept)

-- what was looked at there
pub looked_there : (tables : List Versions) (slot : ℕ) (store : Store) (text : List ℕ) (look : Look) (old new : Tx) (own : SchemaTable) (path : List Step) → own ≡ table_at tables (begun_of old).version (begun_of old).domain → path_or (read_path own text) ≡ Ok path
    → (result : Result StepReply NoMemory) → IfOk result (IsSeen old store path look) → OnOk result (new ≡ after_look store path old) → IfOk result (λ r. IsLooked tables slot store text look old r new)
looked_there tables slot store text look old new own path by good (Ok r) seen looked = record {
  shown = λ c after at kept. looks_there tables c slot store text look old at own by after path r new good seen looked kept;
  looked = inr (path, looked);
}
looked_there tables slot store text look old new own path by good (Err wanting) seen looked = tt

-- the new transaction is one of the log, and of its schema
own_looked : (known : HubHistory) (store : Store) (path : List Step) (tx : Tx) → IsOwn known tx → IsOwn known (after_look store path tx)
own_looked known store path (begun.Read tx) own = own
own_looked known store path (begun.Write tx) own = record { token = own.token; within = own.within }

of_schema_looked : (tables : List Versions) (store : Store) (path : List Step) (tx : Tx) → IsOfSchema tables tx → IsOfSchema tables (after_look store path tx)
of_schema_looked tables store path (begun.Read tx) is = is
of_schema_looked tables store path (begun.Write tx) is = record { within = is.within; schema = is.schema }

pub IsOwn-looked : (known : HubHistory) (store : Store) (old new : Tx) → HasLooked store old new → IsOwn known old → IsOwn known new
IsOwn-looked known store old new looked own =
    elim looked [
      | inl same ↦ subst (IsOwn known) (sym same) own
      | inr at ↦ subst (IsOwn known) (sym at.1) (own_looked known store at.0 old own)
    ]

pub IsOfSchema-looked : (tables : List Versions) (store : Store) (old new : Tx) → HasLooked store old new → IsOfSchema tables old → IsOfSchema tables new
IsOfSchema-looked tables store old new looked is =
    elim looked [
      | inl same ↦ subst (IsOfSchema tables) (sym same) is
      | inr at ↦ subst (IsOfSchema tables) (sym at.1) (of_schema_looked tables store at.0 old is)
    ]

-- The slots hold what they held: what was answered so stays so.
module _ (tables : List Versions) (old : ClientState) (step : Move) (slots : Vec (Slot Tx) Global) (same : held slots ≡ held old.transactions) (schema : HasSchema tables old) where
  abbrev new : ClientState
  new = record old { transactions = slots }

  here : (k : ℕ) (tx : Tx) → held slots k ≡ Some tx → held old.transactions k ≡ Some tx
  here k tx at = sym (ap (λ (h : ℕ → Option Tx). h k) same) ∙ at

  pub stays_answered : (r : StepReply) → Answers tables old step r old → IsAnswered tables old step r new
  stays_answered r answers = record {
    answers = λ known is of. answers known is of ∙ (λ i. local r (record (client_of old) { transactions = λ k. option_map open_of (sym same i k) }));
    sound = record {
      steady = λ known is. record { transactions = λ k tx at. is.transactions k tx (here k tx at); followers = is.followers };
      sound = λ known is. record {
        steady = record { transactions = λ k tx at. is.steady.transactions k tx (here k tx at); followers = is.steady.followers };
        receipts = is.receipts;
        chains = is.chains;
        invoked = is.invoked;
        listeners = is.listeners;
        apart = is.apart;
      };
    };
    schema = λ k tx at. schema k tx (here k tx at);
    same = record { number = refl; replies = refl };
  }

-- the rows that follow a listener
pub mirrors_nothing : (tables : List Versions) (c : ClientState) (slot : ℕ) → held c.listeners slot ≡ None → Answers tables c (Mirror slot) (reply.Refused EmptySlot) c
mirrors_nothing tables c slot none known is of = ap (λ (o : Option Follower). mirror known.world known.log (client_of c) (option_map listener_of o)) none

pub mirrors : (tables : List Versions) (c : ClientState) (slot : ℕ) (f : Follower) (r : StepReply) → held c.listeners slot ≡ Some f → r ≡ reply.Mirror f.id.domain f.path f.mirror.version f.mirror.rows → Answers tables c (Mirror slot) r c
mirrors tables c slot f r found shown known is of =
    let follows = is.followers slot f found in
    ap (λ (o : Option Follower). mirror known.world known.log (client_of c) (option_map listener_of o)) found
    ∙ (λ i. local (reply.Mirror f.id.domain f.path f.mirror.version (sym follows.rows i)) (client_of c))
    ∙ ap (λ (x : StepReply). local x (client_of c)) (sym shown)
