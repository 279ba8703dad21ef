-- Reads in transactions.
use Rattle.std.specs.Prelude.{◌≡◌, ◌⊎◌, ℕ, List, Some}
use Rattle.sal_types.specs.declared.value.Store.{Store}
use Rattle.sal_types.specs.declared.value.Step.{Step}
use Rattle.sal_types.specs.declared.row.Row.{Row}
use Rattle.sal_rows.specs.Apply.{apply_ops}
use Rattle.sal_tx.specs.declared.tx.Tx.{Tx}
use Rattle.sal_tx.specs.declared.tx.Tx.TheVariants as begun
use Rattle.sal_tx.specs.Views.{after_read, rows_in}
use Rattle.sal_hub.specs.Tokens.{base_of, begun_of, mode_of, ops_of}
use Rattle.sal_script.specs.Moves as asked
use Rattle.sal_script.specs.Moves.{Move}
use Rattle.sal_script.specs.declared.reply.StepReply.{StepReply}
use Rattle.sal_script.specs.Play.{Client, Open, found, look_reply, rows_read, set_slot}
use Rattle.sal_script.specs.Tables.{Versions}
use Rattle.sal_client.specs.declared.client.ClientState.{ClientState}
use Rattle.sal_client.specs.declared.looks.Look.{Look}
use Rattle.sal_client.specs.declared.looks.Look.TheVariants.{Read, Exists}
use Rattle.sal_client.specs.Clients.{client_of, open_of, opened}
use Rattle.sal_client.specs.Meeting.{Answers}
use Rattle.sal_client.specs.Slots.{held}

-- the step of this read
abbrev pub look_move : ℕ → Store → List ℕ → Look → Move
look_move slot store text Read = asked.Read slot store text
look_move slot store text Exists = asked.Exists slot store text

-- the reply to a read, from the rows that a transaction sees
abbrev pub shown_by : Look → Open → List Step → List Row → StepReply
shown_by Read = rows_read
shown_by Exists = found

-- a transaction after a read of a path
abbrev pub after_look : Store → List Step → Tx → Tx
after_look store path (begun.Read tx) = begun.Read tx
after_look store path (begun.Write tx) = begun.Write (after_read store path tx)

-- a transaction's reply to a read of a path
abbrev pub IsSeen : Tx → Store → List Step → Look → StepReply → Type 0
IsSeen tx store path look r = look_reply (mode_of tx) (begun_of tx).domain (shown_by look (open_of tx) path (apply_ops (rows_in (base_of tx) store) store (ops_of tx))) ≡ r

-- the transaction after a read: unchanged, if the text is not a path
abbrev pub HasLooked : Store → Tx → Tx → Type 0
HasLooked store old new = (new ≡ old) ⊎ ((path : List Step) × (new ≡ after_look store path old))

-- the client with this transaction in the slot, in the definitions' form
abbrev pub with_open : ℕ → Tx → ClientState → Client
with_open slot tx c = record (client_of c) { transactions = set_slot slot (Some (open_of tx)) (opened c) }

-- A read in the slot's transaction was answered, and a new transaction is in the slot.
pub record IsLooked (tables : List Versions) (slot : ℕ) (store : Store) (text : List ℕ) (look : Look) (old : Tx) (r : StepReply) (new : Tx) : Type 0 where
  pub shown : (c after : ClientState) → held c.transactions slot ≡ Some old → client_of after ≡ with_open slot new c → Answers tables c (look_move slot store text look) r after
  pub looked : HasLooked store old new
