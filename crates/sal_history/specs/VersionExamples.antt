-- Worked examples of versions: a presence container that has one leaf, then a mandatory one besides, and then a third.
use Rattle.std.specs.Prelude.{true, List, [], ◌∷◌, ◌++◌, Some, None}
use Rattle.sal_types.specs.declared.value.Step.{Step}
use Rattle.sal_types.specs.declared.value.Step.TheVariants.{Node}
use Rattle.sal_types.specs.declared.row.Row.{Row}
use Rattle.sal_rows.specs.declared.clash.Rules.TheVariants.{One}
use Rattle.sal_rows.specs.declared.op.Op.{Op}
use Rattle.sal_rows.specs.declared.outcome.Mode.TheVariants.{Rw}
use Rattle.sal_schema.specs.declared.kind.Kind.TheVariants.{Container, Leaf as Scalar}
use Rattle.sal_schema.specs.declared.table.SchemaTable.{SchemaTable}
use Rattle.sal_rules.specs.Examples.{mandatory, mark, node, table}
use Rattle.sal_history.specs.declared.call.Call.TheVariants.{Begin, Mount, Settle, Submit, Take, Upgrade}
use Rattle.sal_history.specs.declared.call.Entry.{Entry}
use Rattle.sal_history.specs.Examples.{a, begin, box, by, delete, leaf, put_rows}
use Rattle.sal_history.specs.Listening.{commit, listen}
use Rattle.sal_history.specs.World.{Domain}

-- version 0 of the schema: the box (0) with a leaf (1); version 1 adds its owner (2), which is mandatory, and version 2 a note (3)
abbrev pub plain : SchemaTable
plain = table (node None (Container true) ∷ node (Some 0) Scalar ∷ [])

abbrev pub owned : SchemaTable
owned = table (node None (Container true) ∷ node (Some 0) Scalar ∷ mandatory (Some 0) Scalar ∷ [])

abbrev pub noted : SchemaTable
noted = table (node None (Container true) ∷ node (Some 0) Scalar ∷ mandatory (Some 0) Scalar ∷ node (Some 0) Scalar ∷ [])

-- a world of one domain with these versions, and these rows in its configuration and its operational tree
abbrev pub upgradable : List Row → List Row → List Domain
upgradable config oper = record { table = plain; upgrades = owned ∷ noted ∷ []; opening = record { config = config; oper = oper }; rules = One } ∷ []

-- and a device of one version
abbrev pub with_device : List Domain
with_device = upgradable [] [] ++ record { table = plain; upgrades = []; opening = record { config = []; oper = [] }; rules = One } ∷ []

abbrev pub owner : List Step
owner = Node 0 ∷ Node 2 ∷ []

-- the box alone, which lacks its owner from version 1 on, and the box with it
abbrev pub bare : List Row
bare = mark box ∷ []

abbrev pub whole : List Row
whole = mark box ∷ leaf owner "x" ∷ []

abbrev pub put_box : List Row → List Op
put_box rows = put_rows box rows ∷ []

-- ---- logs

-- upgrades in and out of their order, between two transactions
abbrev pub upgrades_in_turn : List Entry
upgrades_in_turn = by 0 begin ∷ by 0 (Upgrade 2) ∷ by 0 (Upgrade 1) ∷ by 1 (Upgrade 1) ∷ by 0 (Upgrade 2) ∷ by 0 begin ∷ []

-- client 0 submits, client 1 upgrades, and then the submission is decided
abbrev pub decided_after : List Row → List Entry
decided_after rows = by 0 begin ∷ by 0 (Submit 0 (put_box rows)) ∷ by 1 (Upgrade 1) ∷ by 0 (Settle 1) ∷ []

-- it is decided before
abbrev pub decided_before : List Row → List Entry
decided_before rows = by 0 begin ∷ by 0 (Submit 0 (put_box rows)) ∷ by 0 (Settle 1) ∷ by 1 (Upgrade 1) ∷ []

-- an upgrade, a delete of the box, and the upgrade once more
abbrev pub tried_twice : List Entry
tried_twice = by 0 (Upgrade 1) ∷ by 0 begin ∷ by 0 (Submit 1 (delete box ∷ [])) ∷ by 0 (Settle 1) ∷ by 0 (Upgrade 1) ∷ []

-- client 0 listens at the owner, which version 1 adds; after the upgrade client 1 makes a commit with it
abbrev pub listened_after : List Entry
listened_after = by 0 (listen owner) ∷ by 0 (Upgrade 1) ∷ (commit 2 1 (put_box whole) ++ by 0 (Take 1) ∷ [])

-- a commit of the device after the upgrade
abbrev pub on_device : List Entry
on_device = by 0 (Mount a 1) ∷ by 0 (Upgrade 1) ∷ by 1 (Begin 1 Rw) ∷ by 1 (Submit 2 (put_box bare)) ∷ by 1 (Settle 1) ∷ []
