-- The breaches of a tree, and the one that is reported.
use Rattle.std.specs.Prelude.{ℕ, zero, suc, Bool, false, ◌&&◌, nat_le, is_some, List, [], ◌∷◌, ◌++◌, length, Option, Some, None, if◌then◌else◌}
use Rattle.std.specs.List.{fold, flat_map}
use Rattle.std.specs.Option.{option_map_or}
use Rattle.std.specs.Ordering.{is_lt}
use Rattle.std.specs.declared.cmp.Ordering.{Ordering}
use Rattle.sal_types.specs.declared.value.Store.{Store}
use Rattle.sal_types.specs.declared.value.Store.TheVariants.{Config, Oper}
use Rattle.sal_types.specs.declared.value.Step.{Step}
use Rattle.sal_types.specs.declared.row.Row.{Row}
use Rattle.sal_schema.specs.declared.table.SchemaTable.{SchemaTable}
use Rattle.sal_schema.specs.Table.{config_of}
use Rattle.sal_rows.specs.declared.outcome.Rule.{Rule}
use Rattle.sal_rows.specs.declared.outcome.Rule.TheVariants.{Mandatory, MinElements, MaxElements, Unique, TwoCases}
use Rattle.sal_rows.specs.declared.outcome.Breach.{Breach}
use Rattle.sal_rules.specs.declared.spot.Spot.{Spot}
use Rattle.sal_rows.specs.contracts.outcome.BreachOrd.TheImpl as breach_ord
use Rattle.sal_rules.specs.Places.{places, spot_of}
use Rattle.sal_rules.specs.Seen.{Seen, seen_from}
use Rattle.sal_rules.specs.Rules.{broken, steps_to}

-- ---- the least

-- by path, then by rule, then by node
abbrev pub breach_cmp : Breach → Breach → Ordering
breach_cmp = (breach_ord.ghosts).cmp

abbrev pub keep : Option Breach → Breach → Option Breach
keep None other = Some other
keep (Some least) other = if is_lt (breach_cmp other least) then Some other else Some least

abbrev pub least : List Breach → Option Breach
least breaches = fold keep None breaches

-- ---- which rules are checked

-- In the configuration those of configuration nodes, in the operational store those of all data nodes and choices. Nodes of
-- RPCs and notifications have none.
abbrev pub is_looked_at : SchemaTable → Store → ℕ → Bool
is_looked_at table Config n = option_map_or (λ config. config) (config_of table n) false
is_looked_at table Oper n = is_some (config_of table n)

abbrev pub node_of_rule : Rule → ℕ
node_of_rule (Mandatory n) = n
node_of_rule (MinElements n) = n
node_of_rule (MaxElements n) = n
node_of_rule (Unique n) = n
node_of_rule (TwoCases n) = n

abbrev pub rules_of : ℕ → List Rule
rules_of n = Mandatory n ∷ MinElements n ∷ MaxElements n ∷ Unique n ∷ TwoCases n ∷ []

-- ---- the breaches

-- The breach of a rule as seen from a place of the node m, if it is broken there. A path has at most 32 steps, so below
-- that there is no data, and nothing is required.
abbrev pub breach_of : SchemaTable → Store → List Step → Seen → Option ℕ → Rule → List Breach
breach_of table store place see m rule =
    if (is_looked_at table store (node_of_rule rule) && broken table see m rule) && nat_le (length (place ++ steps_to table rule)) 32
    then record { path = place ++ steps_to table rule; rule = rule } ∷ [] else []

-- the numbers below n, in order
unfoldable pub first : ℕ → List ℕ
first zero = []
first (suc n) = first n ++ n ∷ []

abbrev pub numbers : SchemaTable → List ℕ
numbers table = first (length table.nodes)

-- those of these nodes
abbrev pub breaches_at : SchemaTable → Store → List Step → Seen → Option ℕ → List ℕ → List Breach
breaches_at table store place see m nodes = flat_map (λ n. flat_map (breach_of table store place see m) (rules_of n)) nodes

-- those that are checked at a place: none at a list itself, but at its entries
abbrev pub breaches_from : SchemaTable → Store → List Step → Seen → Spot → List ℕ → List Breach
breaches_from table store place see spot nodes = if spot.wants_entry then [] else breaches_at table store place see spot.node nodes

abbrev pub breaches : SchemaTable → Store → List Row → List Breach
breaches table store rows = flat_map (λ place. breaches_from table store place (seen_from rows place) (spot_of table place) (numbers table)) (places rows)

-- the one with the smallest path, then the smallest rule, then the smallest node
abbrev pub breach : SchemaTable → Store → List Row → Option Breach
breach table store rows = least (breaches table store rows)
