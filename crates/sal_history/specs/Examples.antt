-- Worked examples: clients and their calls; the leafs a and b of a container box, and the operations on them.
use Rattle.std.specs.Prelude.{ℕ, false, List, [], ◌∷◌, ◌++◌, map, Some, None}
use Prim.Native.String.{String}
use Rattle.sal_types.specs.declared.value.Store.TheVariants.{Config, Oper}
use Rattle.sal_types.specs.declared.value.Step.{Step}
use Rattle.sal_types.specs.declared.value.Step.TheVariants.{Node}
use Rattle.sal_types.specs.declared.row.Row.{Row}
use Rattle.sal_rows.specs.declared.clash.Rules.TheVariants.{One, Two}
use Rattle.sal_rows.specs.declared.op.Op.{Op}
use Rattle.sal_rows.specs.declared.op.Act.TheVariants.{Put, Merge, Delete}
use Rattle.sal_rows.specs.declared.outcome.Mode.{Mode}
use Rattle.sal_rows.specs.declared.outcome.Mode.TheVariants.{Ro, Rw}
use Rattle.sal_rows.specs.declared.outcome.Outcome.{Outcome}
use Rattle.sal_rows.specs.Reads.{read_of, recorded}
use Rattle.sal_schema.specs.declared.kind.Kind.TheVariants.{Container, Leaf as Scalar}
use Rattle.sal_schema.specs.declared.table.SchemaTable.{SchemaTable}
use Rattle.sal_rules.specs.Examples.{node, table}
use Rattle.sal_history.specs.declared.call.Call.{Call}
use Rattle.sal_history.specs.declared.call.Call.TheVariants.{Begin, Submit, Settle}
use Rattle.sal_history.specs.declared.call.Entry.{Entry}
use Rattle.sal_history.specs.declared.reply.Reply.{Reply}
use Rattle.sal_history.specs.History.{history, outcomes}
use Rattle.sal_history.specs.World.{Domain}
pub use Rattle.sal_rows.specs.Examples.{leaf}

-- ---- boxes

-- a container box with the leafs a and b; the rules do not use types, so the nodes of the tables have none
abbrev pub boxes : SchemaTable
boxes = table (node None (Container false) ∷ node (Some 0) Scalar ∷ node (Some 0) Scalar ∷ [])

abbrev pub box : List Step
box = Node 0 ∷ []

abbrev pub a : List Step
a = Node 0 ∷ Node 1 ∷ []

abbrev pub b : List Step
b = Node 0 ∷ Node 2 ∷ []

-- a world of one domain with these rows in its configuration, or in its operational tree
abbrev pub opened : List Row → List Domain
opened rows = record { table = boxes; upgrades = []; opening = record { config = rows; oper = [] }; rules = One } ∷ []

-- the same under version rules 2
abbrev pub ruled : List Row → List Domain
ruled rows = record { table = boxes; upgrades = []; opening = record { config = rows; oper = [] }; rules = Two } ∷ []

abbrev pub opened_oper : List Row → List Domain
opened_oper rows = record { table = boxes; upgrades = []; opening = record { config = []; oper = rows }; rules = One } ∷ []

-- ---- operations

-- on the configuration: a put of rows, of a leaf alone, and the others
abbrev pub put_rows : List Step → List Row → Op
put_rows path rows = record { store = Config; path = path; act = Put rows }

abbrev pub put : List Step → String → Op
put path text = put_rows path (leaf path text ∷ [])

abbrev pub merge_rows : List Step → List Row → Op
merge_rows path rows = record { store = Config; path = path; act = Merge rows }

abbrev pub merge : List Step → String → Op
merge path text = merge_rows path (leaf path text ∷ [])

abbrev pub delete : List Step → Op
delete path = record { store = Config; path = path; act = Delete }

-- a read that is checked
abbrev pub read : List Step → Op
read path = read_of Config path

-- the operations of a transaction of the mode that reads one path and then puts a leaf
abbrev pub read_and_put : Mode → List Step → List Step → String → List Op
read_and_put mode from to text = recorded mode Config from [] ++ put to text ∷ []

-- the same operation on the operational store
abbrev pub oper : Op → Op
oper op = record { store = Oper; path = op.path; act = op.act }

-- ---- calls

-- calls of one client after another, each with its client; the numbers of entries do not matter here
abbrev pub by : ℕ → Call → Entry
by client call = record { client = client; number = 0; call = call }

abbrev pub begin : Call
begin = Begin 0 Rw

abbrev pub snapshot : Call
snapshot = Begin 0 Ro

-- the replies to a log, and the outcomes that it decides
abbrev pub replies : List Domain → List Entry → List Reply
replies world log = map (λ answered. answered.reply) (history world log)

abbrev pub decisions : List Domain → List Entry → List Outcome
decisions world log = outcomes (history world log)

-- Client 0 begins and client 1 begins; client 0 submits and settles, then client 1 does.
abbrev pub met : List Op → List Op → List Entry
met first second =
    by 0 begin ∷ by 1 begin ∷ by 0 (Submit 0 first) ∷ by 0 (Settle 1) ∷ by 1 (Submit 1 second) ∷ by 1 (Settle 2) ∷ []

abbrev pub crossed : Op → Op → List Entry
crossed first second = met (first ∷ []) (second ∷ [])

-- Write skew: two transactions of the mode begin, one reads leaf b and puts leaf a, the other reads a and puts b, and both submit.
abbrev pub skewed : Mode → List Entry
skewed mode =
    by 0 (Begin 0 mode) ∷ by 1 (Begin 0 mode) ∷ by 0 (Submit 0 (read_and_put mode b a "0")) ∷ by 0 (Settle 1) ∷ by 1 (Submit 1 (read_and_put mode a b "0")) ∷ by 1 (Settle 2) ∷ []

-- Client 0 begins; client 1 makes commits of the two operations; then client 0 submits and settles.
abbrev pub overtaken : Op → Op → Op → List Entry
overtaken own first second =
    by 0 begin ∷ by 1 begin ∷ by 1 (Submit 1 (first ∷ [])) ∷ by 1 (Settle 1) ∷ by 1 begin ∷ by 1 (Submit 4 (second ∷ [])) ∷ by 1 (Settle 2)
    ∷ by 0 (Submit 0 (own ∷ [])) ∷ by 0 (Settle 3) ∷ []

-- One client begins, submits and settles.
abbrev pub alone : List Op → List Entry
alone ops = by 0 begin ∷ by 0 (Submit 0 ops) ∷ by 0 (Settle 1) ∷ []
