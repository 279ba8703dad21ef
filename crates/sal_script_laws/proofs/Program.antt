-- The program of a load's client from the front, and how its steps go.
use Rattle.std.proofs.Common.{◌≡◌, ℕ, zero, suc, ◌+◌, ◌≤◌, List, [], ◌∷◌, ◌++◌, Option, Some, Result, Ok, ap, sym, ◌∙◌, arith, append_assoc, append-nil}
use Rattle.sal_types.specs.declared.value.Step.{Step}
use Rattle.sal_types.specs.declared.value.Store.TheVariants.{Config}
use Rattle.sal_types.specs.declared.row.Row.{Row}
use Rattle.sal_types.specs.Reading.{◌>>=◌}
use Rattle.sal_rows.specs.declared.op.Act.TheVariants.{Put as PutAct}
use Rattle.sal_rows.specs.declared.outcome.Mode.TheVariants.{Rw}
use Rattle.sal_data.specs.declared.fault.DataFault.{DataFault}
use Rattle.sal_pathtext.specs.declared.fault.PathTextFault.{PathTextFault}
use Rattle.sal_rules.specs.declared.fault.TxFault.{TxFault}
use Rattle.sal_history.specs.declared.call.Call.TheVariants as made
use Rattle.sal_history.specs.declared.call.Entry.{Entry}
use Rattle.sal_script.specs.declared.reply.StepReply.TheVariants.{Accepted}
use Rattle.sal_script.specs.Load.{entry_data, entry_path, key_of, program_of, round_of, value_in}
use Rattle.sal_script.specs.LoadExamples.{entry, table}
use Rattle.sal_script.specs.Moves.{Move, Put, Submit, Settle}
use Rattle.sal_script.specs.Play.{Client, Open, accept_unless, arrive, arrive_by, calls, local, meet, putting, replied, seen_by, set_slot, settle, write_act, write_at, write_with}
use Rattle.sal_script_laws.specs.Rounds.{DataIsRead, IsAccepted, PathIsRead, load_world, put_of}

-- this many rounds of a client, from this one on
abbrev pub rounds_from : ℕ → ℕ → ℕ → ℕ → List Move
rounds_from start client round zero = []
rounds_from start client round (suc left) = round_of (key_of client round) (value_in start client round) ++ rounds_from start client (suc round) left

program_on : (start client round left : ℕ) → program_of start client round ++ rounds_from start client round left ≡ program_of start client (round + left)
program_on start client round zero = let same : round ≡ round + 0 = omega arith in append-nil (program_of start client round) ∙ ap (program_of start client) same
program_on start client round (suc left) =
    let same : suc round + left ≡ round + suc left = omega arith in
    sym (append_assoc (program_of start client round) (round_of (key_of client round) (value_in start client round)) (rounds_from start client (suc round) left))
    ∙ program_on start client (suc round) left
    ∙ ap (program_of start client) same

pub program_from : (start client rounds : ℕ) → program_of start client rounds ≡ rounds_from start client 0 rounds
program_from start client rounds = let same : 0 + rounds ≡ rounds = omega arith in ap (program_of start client) (sym same) ∙ sym (program_on start client 0 rounds)

-- ---- steps

-- the put of a round
abbrev pub put_step : ℕ → ℕ → ℕ → Move
put_step start client round = Put 0 Config (entry_path (key_of client round)) (entry_data (key_of client round) (value_in start client round))

-- a transaction that began at the place, by some version, and has no write yet
abbrev pub opened : ℕ → ℕ → Open
opened place version = record { place = place; domain = 0; version = version; mode = Rw; ops = [] }

-- the client has it in its first slot
abbrev pub HasOpened : Client → ℕ → Type 0
HasOpened client place = (version : ℕ) × (client.transactions 0 ≡ Some (opened place version))

-- and with one
abbrev pub with_put : ℕ → ℕ → ℕ → ℕ → Open
with_put key value place version = record { place = place; domain = 0; version = version; mode = Rw; ops = put_of key value ∷ [] }

abbrev pub after_put : ℕ → ℕ → ℕ → ℕ → Client → Client
after_put key value place version client = replied Accepted (record client { transactions = set_slot 0 (Some (with_put key value place version)) client.transactions })

module _ (path : PathIsRead) (data_read : DataIsRead) (accepted : IsAccepted) where
  -- the put of an entry in a transaction without a write is taken
  put_meets : (log : List Entry) (client : Client) (key value place version : ℕ) → key ≤ 4294967295 → value ≤ 4294967295 → client.transactions 0 ≡ Some (opened place version)
      → meet ((table ∷ []) ∷ []) load_world log client (Put 0 Config (entry_path key) (entry_data key value))
      ≡ local Accepted (record client { transactions = set_slot 0 (Some (with_put key value place version)) client.transactions })
  put_meets log client key value place version short small at =
      ap (write_with ((table ∷ []) ∷ []) load_world log 0 Config (entry_path key) (putting (entry_data key value)) client) at
      ∙ ap (λ (p : Result (List Step) PathTextFault). write_at table load_world log 0 Config p (putting (entry_data key value)) (opened place version) client) (path key short)
      ∙ ap (λ (r : Result (List Row) DataFault). write_act table load_world log 0 Config (entry key) (r >>= (λ rows. Ok (PutAct rows))) (opened place version) client) (data_read key value short small)
      ∙ ap (λ (fault : Option TxFault). accept_unless fault 0 (put_of key value) (opened place version) client) (accepted (seen_by load_world log (opened place version) Config) key value)

  -- so the client reaches its submit
  pub put_arrives : (log : List Entry) (client : Client) (key value place version : ℕ) (rest : List Move) → key ≤ 4294967295 → value ≤ 4294967295 → client.transactions 0 ≡ Some (opened place version)
      → arrive ((table ∷ []) ∷ []) load_world log client (Put 0 Config (entry_path key) (entry_data key value) ∷ Submit 0 ∷ rest)
      ≡ calls (made.Submit place (put_of key value ∷ [])) (Submit 0) (record { client = after_put key value place version client; steps = rest })
  put_arrives log client key value place version rest short small at =
      ap (arrive_by (λ next. arrive ((table ∷ []) ∷ []) load_world log next (Submit 0 ∷ rest)) (λ call. calls call (Put 0 Config (entry_path key) (entry_data key value)) (record { client = client; steps = Submit 0 ∷ rest })))
      (put_meets log client key value place version short small at)

-- a client with a receipt reaches its settle
pub settle_arrives : (log : List Entry) (client : Client) (n : ℕ) (rest : List Move) → client.receipts 0 ≡ Some n
    → arrive ((table ∷ []) ∷ []) load_world log client (Settle 0 ∷ rest) ≡ calls (made.Settle n) (Settle 0) (record { client = client; steps = rest })
settle_arrives log client n rest at =
    ap (arrive_by (λ next. arrive ((table ∷ []) ∷ []) load_world log next rest) (λ call. calls call (Settle 0) (record { client = client; steps = rest })))
    (ap (settle client) at)
