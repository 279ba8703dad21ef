-- The text of a run: the order of the calls, a line for each step, and the trees at the end. Each line ends with LF.
use Rattle.std.specs.Prelude.{ℕ, ◌+◌, ◌||◌, Bool, List, [], ◌∷◌, ◌++◌, length, map, nat_eq, codes, decimal}
use Rattle.std.specs.List.{filter, flat_map, range_with_len}
use Rattle.sal_types.specs.declared.value.Store.TheVariants.{Config, Oper}
use Rattle.sal_schema.specs.declared.table.SchemaTable.{SchemaTable}
use Rattle.sal_mount.specs.Mounts.{was_mounted}
use Rattle.sal_history.specs.declared.call.Entry.{Entry}
use Rattle.sal_history.specs.declared.reply.Reply.{Reply}
use Rattle.sal_history.specs.declared.reply.Reply.TheVariants.{Begun, Chain, Accepted, Receipt, Settled, Decided, Nothing, Listener, Batch, CallMade, Request, Output, Offered, Notes, MountAt, Found, Late, Refused}
use Rattle.sal_history.specs.World.{Domain}
use Rattle.sal_history.specs.History.{history, commits, newest_tree}
use Rattle.sal_history.specs.Services.{mounted}
use Rattle.serde_json.specs.Written.{compact_text}
use Rattle.sal_script.specs.declared.reply.StepReply.{StepReply}
use Rattle.sal_script.specs.declared.reply.StepReply.TheVariants as step_reply
use Rattle.sal_script.specs.declared.reply.StepRefusal.{StepRefusal}
use Rattle.sal_script.specs.declared.reply.StepRefusal.TheVariants.{EmptySlot, ReadOnly, NoDevice, NoUpgrade, UnknownName, BadPath, BadData, Write}
use Rattle.sal_script.specs.declared.trees.DomainTrees.{DomainTrees}
use Rattle.sal_script.specs.BatchData.{batch_data}
use Rattle.sal_script.specs.MessageData.{notes_data}
use Rattle.sal_script.specs.Play.{Played}
use Rattle.sal_script.specs.Tables.{table_in, tables_of}
pub use Rattle.sal_script.specs.Words.{breach_text, context_text, data_fault_text, fault_text, kind_text, listened_text, mount_text, number, on_text, outcome_text, output_text, path_fault_text, path_text, request_text, rows_text, rule_text, scalar_text, store_text, tree_text, truth_text, tx_fault_text}

-- the line of the order: the client of each entry of the log
abbrev pub order_line : List Entry → List ℕ
order_line log = codes "order" ++ (flat_map (λ e. number e.client) log ++ (10 ∷ []))

-- The paths and data of a domain are written by the table of the last version of its schema; RPCs, notifications, mounts and upgrades are of
-- domain 0.
module _ (tables : List SchemaTable) where
  -- ---- replies

  abbrev pub refusal_text : StepRefusal → List ℕ
  refusal_text EmptySlot = codes "empty-slot"
  refusal_text ReadOnly = codes "read-only"
  refusal_text NoDevice = codes "no-device"
  refusal_text NoUpgrade = codes "no-upgrade"
  refusal_text UnknownName = codes "unknown-name"
  refusal_text (BadPath fault) = codes "path " ++ path_fault_text fault
  refusal_text (BadData domain fault) = codes "data " ++ data_fault_text (table_in tables domain) fault
  refusal_text (Write domain fault) = tx_fault_text (table_in tables domain) fault

  abbrev pub call_text : Reply → List ℕ
  call_text (Begun commit on) = codes "begun" ++ (number commit ++ on_text on)
  call_text (Chain id) = codes "chain" ++ number id
  call_text Accepted = codes "ok"
  call_text (Receipt n) = codes "receipt" ++ number n
  call_text (Settled domain outcome) = outcome_text (table_in tables domain) outcome
  call_text (Decided receipt domain outcome) = codes "decided" ++ (number receipt ++ (32 ∷ outcome_text (table_in tables domain) outcome))
  call_text Nothing = codes "nothing"
  call_text (Listener id domain path opened) =
      codes "listener" ++ (number id ++ (number opened.version ++ listened_text (table_in tables domain) path opened.rows))
  call_text (Batch domain batch) = codes "batch" ++ (number batch.from ++ (number batch.to ++ (32 ∷ compact_text (batch_data (table_in tables domain) batch))))
  call_text (CallMade id) = codes "call" ++ number id
  call_text (Request request) = request_text (table_in tables 0) request
  call_text (Output rpc rows) = output_text (table_in tables 0) rpc rows
  call_text (Offered count) = codes "offered" ++ number count
  call_text (Notes list) = codes "notes " ++ compact_text (notes_data (table_in tables 0) list)
  call_text (MountAt mount) = mount_text mount
  call_text Found = codes "found"
  call_text Late = codes "late"
  call_text (Refused fault) = codes "refused " ++ fault_text (table_in tables 0) fault

  abbrev pub reply_text : StepReply → List ℕ
  reply_text (step_reply.Called reply) = call_text reply
  reply_text step_reply.Accepted = codes "ok"
  reply_text (step_reply.Read domain path rows) = rows_text (table_in tables domain) path rows
  reply_text (step_reply.Exists found) = truth_text found
  reply_text (step_reply.Mirror domain path version rows) = codes "mirror" ++ (number version ++ listened_text (table_in tables domain) path rows)
  reply_text (step_reply.Refused refusal) = codes "refused " ++ refusal_text refusal

  -- ---- lines

  abbrev pub reply_line : ℕ → ℕ → StepReply → List ℕ
  reply_line client step r = decimal client ++ (number step ++ (32 ∷ (reply_text r ++ (10 ∷ []))))

  -- a client's lines, from step s on
  abbrev pub client_lines : ℕ → ℕ → List StepReply → List ℕ
  client_lines client s [] = []
  client_lines client s (r ∷ rs) = reply_line client s r ++ client_lines client (s + 1) rs

  -- the lines of the clients from number c on
  abbrev pub reply_lines : ℕ → List (List StepReply) → List ℕ
  reply_lines c [] = []
  reply_lines c (rs ∷ rest) = client_lines c 0 rs ++ reply_lines (c + 1) rest

  -- the number of commits of a domain, and its trees at the end
  abbrev pub tree_line : DomainTrees → List ℕ
  tree_line t =
      codes "tree" ++ (number t.domain ++ (number t.commits ++ (tree_text (table_in tables t.domain) t.config ++ (tree_text (table_in tables t.domain) t.oper ++ (10 ∷ [])))))

  -- the report of a log, the replies to the clients' steps, and the domains at the end
  abbrev pub report_of : List Entry → List (List StepReply) → List DomainTrees → List ℕ
  report_of log replies trees = order_line log ++ (reply_lines 0 replies ++ flat_map tree_line trees)

-- ---- the domains at the end

-- the controller's own domain, and each device that was ever mounted
abbrev pub is_told : List Domain → List Entry → ℕ → Bool
is_told world log domain = nat_eq domain 0 || was_mounted (mounted (length world) (history world log)) domain

-- these domains, by number
abbrev pub told_domains : List Domain → List Entry → List ℕ
told_domains world log = filter (is_told world log) (range_with_len 0 (length world))

-- the commits of a domain, and its newest trees
abbrev pub trees_in : List Domain → List Entry → ℕ → DomainTrees
trees_in world log domain =
    record { domain = domain; commits = length (commits (history world log) domain); config = newest_tree world log domain Config; oper = newest_tree world log domain Oper }

-- the report of the result of a script over its domains
abbrev pub report : List Domain → Played → List ℕ
report world played = report_of (tables_of world) played.log played.replies (map (trees_in world played.log) (told_domains world played.log))
