-- The version of domain 0's schema over a log: each accepted upgrade is to the next one.
use Rattle.std.specs.Prelude.{ℕ, Bool, true, false, List, take, Option, count_by}
use Rattle.std.specs.Option.{option_map, option_or}
use Rattle.sal_types.specs.declared.value.Store.{Store}
use Rattle.sal_types.specs.declared.value.Store.TheVariants.{Config, Oper}
use Rattle.sal_types.specs.declared.row.Row.{Row}
use Rattle.sal_rows.specs.declared.outcome.CallFault.{CallFault}
use Rattle.sal_rows.specs.declared.outcome.CallFault.TheVariants.{UpgradeBreach}
use Rattle.sal_schema.specs.declared.table.SchemaTable.{SchemaTable}
use Rattle.sal_rules.specs.Breaches.{breach}
use Rattle.sal_history.specs.Answered.{Answered}
use Rattle.sal_history.specs.World.{Domain, table_of}
use Rattle.sal_history.specs.declared.call.Call.{Call}
use Rattle.sal_history.specs.declared.call.Call.TheVariants.{Upgrade}
use Rattle.sal_history.specs.declared.reply.Reply.{Reply}
use Rattle.sal_history.specs.declared.reply.Reply.TheVariants.{Accepted}

abbrev pub is_upgrade : Call → Bool
is_upgrade (Upgrade version) = true
is_upgrade call = false

-- a call with this reply was an accepted upgrade
abbrev pub upgraded : Call → Reply → Bool
upgraded (Upgrade version) Accepted = true
upgraded call reply = false

-- the present version: the number of accepted upgrades
abbrev pub schema_version : List Answered → ℕ
schema_version answered = count_by (λ a. upgraded a.entry.call a.reply) answered

-- the version at an index: the number of accepted upgrades before it
abbrev pub version_at : List Answered → ℕ → ℕ
version_at answered place = schema_version (take place answered)

-- the table of each domain by the present version, and by that at an index
abbrev pub tables_now : List Domain → List Answered → ℕ → SchemaTable
tables_now world answered domain = table_of world (schema_version answered) domain

abbrev pub tables_at : List Domain → List Answered → ℕ → ℕ → SchemaTable
tables_at world answered place domain = table_of world (version_at answered place) domain

-- a breach of a store's tree by a table, as a refusal
abbrev pub breach_in : SchemaTable → (Store → List Row) → Store → Option CallFault
breach_in table trees s = option_map (λ b. UpgradeBreach s b.path b.rule) (breach table s (trees s))

-- the first breach of two trees, in the configuration or else in the operational tree
abbrev pub broken_by : SchemaTable → (Store → List Row) → Option CallFault
broken_by table trees = option_or (breach_in table trees Config) (breach_in table trees Oper)
