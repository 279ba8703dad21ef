-- Worked examples of upgrades: a schema in two versions, the steps of clients, and their reports.
use Rattle.std.specs.Prelude.{ℕ, Bool, true, false, List, [], ◌∷◌, ◌++◌, None, Some, Result, Ok, Err, codes, decimal}
use Prim.Native.String.{String}
use Rattle.sal_types.specs.declared.value.Store.TheVariants.{Config}
use Rattle.sal_rows.specs.declared.clash.Rules.TheVariants.{One}
use Rattle.sal_rows.specs.declared.outcome.Mode.TheVariants.{Rw}
use Rattle.serde_json.specs.Data.{object, no_members}
use Rattle.sal_schema.specs.declared.kind.Kind.TheVariants.{Container}
use Rattle.sal_schema.specs.declared.table.NodeInfo.{NodeInfo}
use Rattle.sal_schema.specs.declared.table.SchemaTable.{SchemaTable}
use Rattle.sal_schema.specs.Examples.{leaf, node, text}
use Rattle.sal_history.specs.World.{Domain}
use Rattle.sal_script.specs.Moves.{Move, Begin, Put, Exists, Submit, Settle, Upgrade}
use Rattle.sal_script.specs.Play.{Played, play}
use Rattle.sal_script.specs.Report.{report}

-- ---- a schema in two versions

-- version 0: a container `box`, with presence or without, and its leaf `a`
abbrev pub first_nodes : Bool → List NodeInfo
first_nodes presence = node None (Container presence) 0 (codes "box") ∷ leaf (Some 0) 0 (codes "a") 0 ∷ []

abbrev pub first : Bool → SchemaTable
first presence = record { nodes = first_nodes presence; types = text 0 100 ∷ []; modules = codes "plain" ∷ []; identities = [] }

-- version 1: a second module adds the leaf `c` to it, after the nodes that were there
abbrev pub added : NodeInfo
added = leaf (Some 0) 1 (codes "c") 0

abbrev pub with_leaf : Bool → NodeInfo → SchemaTable
with_leaf presence leaf_info =
    record { nodes = first_nodes presence ++ leaf_info ∷ []; types = text 0 100 ∷ []; modules = codes "plain" ∷ codes "more" ∷ []; identities = [] }

-- a world of one domain with two versions and empty trees: of a plain box with a further leaf, and of a box with presence in which that
-- leaf is mandatory
abbrev pub world_of : SchemaTable → SchemaTable → List Domain
world_of older newer = record { table = older; upgrades = newer ∷ []; opening = record { config = []; oper = [] }; rules = One } ∷ []

abbrev pub plain_boxes : List Domain
plain_boxes = world_of (first false) (with_leaf false added)

abbrev pub strict_boxes : List Domain
strict_boxes = world_of (first true) (with_leaf true (record added { mandatory = true }))

-- the report of a script over a world, or a text that names the index at which the order fails
abbrev pub run : List Domain → List (List Move) → List ℕ → List ℕ
run world clients order = text_of (play world clients order)
  where
    text_of : Result Played ℕ → List ℕ
    text_of (Ok played) = report world played
    text_of (Err index) = codes "bad order at " ++ decimal index

-- ---- a path that the second module adds

abbrev pub has_c : ℕ → Move
has_c slot = Exists slot Config (codes "/plain:box/more:c")

-- It is no path before the upgrade. A transaction that began before the upgrade keeps its own version, and one that begins after it has the
-- new version.
abbrev pub loads : List Move
loads = Begin 0 0 Rw ∷ has_c 0 ∷ Upgrade 1 ∷ has_c 0 ∷ Begin 1 0 Rw ∷ has_c 1 ∷ []

abbrev pub loads_report : String
loads_report =
    "order 0 0 0\n0 0 begun 0\n0 1 refused path unknown-node 11\n0 2 ok\n0 3 refused path unknown-node 11\n0 4 begun 0\n0 5 false\ntree 0 0 {} {}\n"

-- The same upgrade is refused by its number, and the script has no further one.
abbrev pub twice : List Move
twice = Upgrade 1 ∷ Upgrade 1 ∷ Upgrade 2 ∷ []

abbrev pub twice_report : String
twice_report = "order 0 0\n0 0 ok\n0 1 refused wrong-version 1\n0 2 refused no-upgrade\ntree 0 0 {} {}\n"

-- ---- a rule that the second module brings

-- A submission that began before the upgrade is decided after it, by the new version.
abbrev pub submits : List Move
submits = Begin 0 0 Rw ∷ Put 0 Config (codes "/plain:box") (object no_members) ∷ Submit 0 ∷ Upgrade 1 ∷ Settle 0 ∷ []

abbrev pub submits_report : String
submits_report =
    "order 0 0 0 0\n0 0 begun 0\n0 1 ok\n0 2 receipt 1\n0 3 ok\n0 4 invalid config \"/plain:box\" mandatory more:c\ntree 0 0 {} {}\n"

-- The newest tree breaks the rule, so the version stays as it is.
abbrev pub breaks : List Move
breaks =
    Begin 0 0 Rw ∷ Put 0 Config (codes "/plain:box") (object no_members) ∷ Submit 0 ∷ Settle 0 ∷ Upgrade 1 ∷ Begin 0 0 Rw ∷ has_c 0 ∷ []

abbrev pub breaks_report : String
breaks_report =
    "order 0 0 0 0 0\n0 0 begun 0\n0 1 ok\n0 2 receipt 1\n0 3 done 1\n0 4 refused upgrade-breach config \"/plain:box\" mandatory more:c\n0 5 begun 1\n0 6 refused path unknown-node 11\ntree 0 1 {\"plain:box\":{}} {}\n"
