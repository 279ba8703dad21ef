-- The script of a load, and its summary. Four clients put entries into one list in rounds, each its own entries.
use Rattle.std.specs.Prelude.{ℕ, zero, suc, ◌+◌, ◌*◌, false, List, [], ◌∷◌, ◌++◌, length, sum_by, codes, decimal, if◌then◌else◌, nat_eq}
use Prim.Native.String.{String}
use Rattle.std.specs.Option.{option_map_or}
use Rattle.sal_types.specs.declared.value.Atom.{Atom}
use Rattle.sal_types.specs.declared.value.Atom.TheVariants.{Unsigned}
use Rattle.sal_types.specs.declared.value.Cell.{Cell}
use Rattle.sal_types.specs.declared.value.Cell.TheVariants.{Leaf}
use Rattle.sal_types.specs.declared.value.Store.TheVariants.{Config}
use Rattle.sal_types.specs.declared.value.Step.{Step}
use Rattle.sal_types.specs.declared.value.Step.TheVariants.{Node}
use Rattle.sal_types.specs.declared.row.Row.{Row}
use Rattle.sal_rows.specs.declared.clash.Rules.TheVariants.{One}
use Rattle.sal_rows.specs.declared.outcome.Mode.TheVariants.{Rw}
use Rattle.sal_schema.specs.Paths.{last_step}
use Rattle.serde_json.specs.Data.{Data, number, unsigned, object, member, no_members}
use Rattle.sal_history.specs.declared.call.Entry.{Entry}
use Rattle.sal_script.specs.declared.load.TheConstants.{LOAD_MODULE}
use Rattle.sal_script.specs.declared.trees.DomainTrees.{DomainTrees}
use Rattle.sal_script.specs.Moves.{Move, Begin, Put, Submit, Settle}
use Rattle.sal_script.specs.Script.{Parts}
use Rattle.sal_script.specs.Words as words

-- ---- the script

-- the key of a client's entry of a round, and its number
abbrev pub key_of : ℕ → ℕ → ℕ
key_of client round = client * 1000000 + round

abbrev pub value_in : ℕ → ℕ → ℕ → ℕ
value_in start client round = start + 4 * round + client + 1

-- the path of the entry with this key
abbrev pub entry_path : ℕ → List ℕ
entry_path key = codes "/load:cell[k='" ++ (decimal key ++ codes "']")

abbrev pub entry_data : ℕ → ℕ → Data
entry_data key value = object (member (codes "k") (number (unsigned key)) (member (codes "v") (number (unsigned value)) no_members))

-- a transaction that puts one entry
abbrev pub round_of : ℕ → ℕ → List Move
round_of key value = Begin 0 0 Rw ∷ Put 0 Config (entry_path key) (entry_data key value) ∷ Submit 0 ∷ Settle 0 ∷ []

-- this many rounds of a client
abbrev pub program_of : ℕ → ℕ → ℕ → List Move
program_of start client zero = []
program_of start client (suc round) = program_of start client round ++ round_of (key_of client round) (value_in start client round)

abbrev pub clients_of : ℕ → ℕ → List (List Move)
clients_of rounds start = program_of start 0 rounds ∷ program_of start 1 rounds ∷ program_of start 2 rounds ∷ program_of start 3 rounds ∷ []

-- the whole script, over empty trees; it has no order
abbrev pub parts_of : ℕ → ℕ → Parts
parts_of rounds start = record {
  modules = LOAD_MODULE.now ∷ [];
  upgrades = [];
  config = object no_members;
  operational = object no_members;
  devices = [];
  clients = clients_of rounds start;
  order = [];
  rules = One;
  checked = false;
}

-- ---- the summary

-- The numbers at the end: the calls of the log, the commits, the rows of the configuration, and the sum of all `v` there.
pub record Totals : Type 0 where
  pub calls : ℕ
  pub commits : ℕ
  pub rows : ℕ
  pub values : ℕ

abbrev pub unsigned_of : Atom → ℕ
unsigned_of (Unsigned n) = n
unsigned_of atom = 0

-- the number in a cell after this step; the leaf `v` is node 2
abbrev pub number_at : Cell → Step → ℕ
number_at (Leaf value) (Node n) = if nat_eq n 2 then unsigned_of value.atom else 0
number_at cell step = 0

-- the number of a leaf `v`; 0 for each other row
abbrev pub number_of : Row → ℕ
number_of row = option_map_or (number_at row.cell) (last_step row.path) 0

-- those of a log and of its domain's trees at the end
abbrev pub totals_of : List Entry → DomainTrees → Totals
totals_of log trees = record { calls = length log; commits = trees.commits; rows = length trees.config; values = sum_by number_of trees.config }

-- a word and a number
abbrev pub count_line : String → ℕ → List ℕ
count_line word n = codes word ++ (words.number n ++ (10 ∷ []))

abbrev pub totals_text : Totals → List ℕ
totals_text totals = count_line "calls" totals.calls ++ (count_line "commits" totals.commits ++ (count_line "rows" totals.rows ++ count_line "sum" totals.values))

-- the line of the command's words, and the lines of the totals
abbrev pub summary_of : ℕ → ℕ → Totals → List ℕ
summary_of rounds start totals = (codes "load" ++ (words.number rounds ++ (words.number start ++ (10 ∷ [])))) ++ totals_text totals
