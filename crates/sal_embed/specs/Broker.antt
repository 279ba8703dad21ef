-- An embedded broker: its clients after the steps that they made.
use Rattle.std.specs.Prelude.{◌≡◌, ◌≤◌, ◌<◌, ℕ, ⊤, List, [], ◌∷◌, ◌++◌, MatchOption, None, Option, Some, length, map, slice_get, string_bytes}
use Rattle.std.specs.List.{flat_map}
use Rattle.std.specs.Option.{is_some}
use Rattle.sal_schema.specs.declared.table.SchemaTable.{SchemaTable}
use Rattle.sal_history.specs.declared.call.Entry.{Entry}
use Rattle.sal_history.specs.World.{Domain}
use Rattle.sal_script.specs.Along.{IsAt}
use Rattle.sal_script.specs.Moves.{Move}
use Rattle.sal_script.specs.Play.{Client}
use Rattle.sal_script.specs.Report.{client_lines, order_line, told_domains, tree_line, trees_in}
use Rattle.sal_script.specs.Tables.{tables_of, versions_of}
use Rattle.sal_script.specs.declared.reply.StepReply.{StepReply}
use Rattle.sal_hub.specs.HubHistory.{HubHistory}
use Rattle.sal_client.specs.declared.run.ClientRun.{ClientRun}
use Rattle.sal_client.specs.Clients.{IsSound, client_of}
use Rattle.sal_client.specs.Runs.{replies_in}
use Rattle.sal_embed.specs.declared.caller.Caller.{Caller}
use Rattle.sal_embed.specs.Scripts.{Programs, Replies}

-- ---- one client

-- the client with these replies in place of its own
abbrev pub answering : List StepReply → Client → Client
answering rs client = record client { replies = rs }

-- the replies that a run keeps
abbrev pub told_by : Option ClientRun → List StepReply
told_by None = []
told_by (Some run) = replies_in run

-- the reply that is not written yet, if there is one
abbrev pub untold : Caller → List StepReply
untold caller = told_by caller.run

-- Client c reached the end of these steps along the log, with these replies.
pub record IsThrough (world : List Domain) (log : List Entry) (c : ℕ) (steps : List Move) (rs : List StepReply) : Type 0 where
  pub client : Client
  pub at : IsAt (versions_of world) world c steps log (record { client = client; steps = [] })
  pub replies : client.replies ≡ rs

-- The record of that client: its slots, until it is lost, and the lines of the replies that were written.
pub record Keeps (tables : List SchemaTable) (c : ℕ) (client : Client) (caller : Caller) : Type 0 where
  pub slots : MatchOption caller.run ⊤ (λ run. client ≡ answering client.replies (client_of run.client))
  pub told : List StepReply
  pub all : client.replies ≡ told ++ untold caller
  pub count : caller.told ≡ length told
  pub lines : string_bytes caller.lines ≡ client_lines tables c 0 told

-- Client c made these steps, and has these replies.
pub record StandsAt (known : HubHistory) (c : ℕ) (steps : List Move) (rs : List StepReply) (caller : Caller) : Type 0 where
  pub through : IsThrough known.world known.log c steps rs
  pub keeps : Keeps (tables_of known.world) c through.client caller

-- a run of this number, sound for the log, with at most one reply that is not written
pub record IsHeld (known : HubHistory) (c : ℕ) (run : ClientRun) : Type 0 where
  pub number : run.client.number ≡ c
  pub sound : IsSound known run.client
  pub few : length (replies_in run) ≤ 1

-- a client of this number
pub record IsCaller (known : HubHistory) (c : ℕ) (caller : Caller) : Type 0 where
  pub number : caller.number ≡ c
  pub held : MatchOption caller.run ⊤ (IsHeld known c)

-- The client is the same as before, if it has a place.
pub record Follows (tables : List SchemaTable) (old new : Caller) : Type 0 where
  pub number : new.number ≡ old.number
  pub here : is_some new.run ≡ is_some old.run
  pub held : (known : HubHistory) (c : ℕ) → IsCaller known c old → IsCaller known c new
  pub stands : (known : HubHistory) (steps : List Move) (rs : List StepReply) → tables ≡ tables_of known.world → StandsAt known old.number steps rs old → StandsAt known old.number steps rs new

-- ---- all clients

abbrev pub AreCallers : HubHistory → List Caller → Type 0
AreCallers known callers = (c : ℕ) (caller : Caller) → slice_get callers c ≡ Some caller → IsCaller known c caller

-- Each client made its steps along the log. One without a place made none, and no entry of the log is its own.
pub record AreThrough (known : HubHistory) (callers : List Caller) (programs : Programs) (replies : Replies) : Type 0 where
  pub stands : (c : ℕ) (caller : Caller) → slice_get callers c ≡ Some caller → StandsAt known c (programs c) (replies c) caller
  pub beyond : (c : ℕ) → length callers ≤ c → (programs c ≡ []) × (replies c ≡ [])
  pub placed : (i : ℕ) (e : Entry) → slice_get known.log i ≡ Some e → e.client < length callers

-- all clients are the same as before
pub record AllFollow (tables : List SchemaTable) (olds news : List Caller) : Type 0 where
  pub long : length news ≡ length olds
  pub each : (c : ℕ) (old new : Caller) → slice_get olds c ≡ Some old → slice_get news c ≡ Some new → Follows tables old new

-- each has at most one reply that is not written, or has none
abbrev pub AreNear : List Caller → Type 0
AreNear callers = (c : ℕ) (caller : Caller) → slice_get callers c ≡ Some caller → length (untold caller) ≤ 1

abbrev pub AreTold : List Caller → Type 0
AreTold callers = (c : ℕ) (caller : Caller) → slice_get callers c ≡ Some caller → untold caller ≡ []

-- ---- the report

abbrev pub lines_in : Caller → List ℕ
lines_in caller = string_bytes caller.lines

abbrev pub joined : List (List ℕ) → List ℕ
joined lines = flat_map (λ (line : List ℕ). line) lines

-- the report with these lines of its clients
abbrev pub report_with : HubHistory → List (List ℕ) → List ℕ
report_with known lines =
    order_line known.log ++ (joined lines ++ flat_map (tree_line (tables_of known.world)) (map (trees_in known.world known.log) (told_domains known.world known.log)))
