-- The newest trees of a hub as the openings of devices, and that they have no fault.
use Rattle.std.specs.Prelude.{◌≡◌, ℕ, ◌<◌, List, [], length, None}
use Rattle.sal_types.specs.declared.value.Store.TheVariants.{Config, Oper}
use Rattle.sal_rows.specs.declared.clash.Rules.{Rules}
use Rattle.sal_history.specs.History.{history, newest_tree}
use Rattle.sal_history.specs.Versions.{tables_now}
use Rattle.sal_history.specs.World.{Domain}
use Rattle.sal_history_laws.specs.Logs.{AreSentLawful, AreSound}
use Rattle.sal_hub.specs.Epochs.{OpensAtTheNewest, domains_from, next_world}
use Rattle.sal_hub.specs.HubHistory.{HubHistory}
use Rattle.sal_hub.specs.Openings.{fault_of, state_row}

-- the domain of this number with one version of its schema, the present one, and with its newest trees as its opening
abbrev pub copied_domain : Rules → HubHistory → ℕ → Domain
copied_domain rules known n = record {
  table = tables_now known.world (history known.world known.log) n;
  upgrades = [];
  opening = record { config = newest_tree known.world known.log n Config; oper = newest_tree known.world known.log n Oper };
  rules = rules;
}

-- all domains
abbrev pub copied_world : Rules → HubHistory → List Domain
copied_world rules known = domains_from (copied_domain rules known) 0 (length known.world)

-- no newest configuration has state data
abbrev pub AreStateless : HubHistory → Type 0
AreStateless known = (n : ℕ) → n < length known.world → state_row (tables_now known.world (history known.world known.log) n) (newest_tree known.world known.log n Config) ≡ None

-- ---- laws

-- No newest configuration of a hub has state data, if none of its openings was refused. Premise: each version extends the one before, the openings
-- are closed, and each submission is lawful over its transaction's base, as in each hub.
abbrev pub HubsAreStateless : Type 0
HubsAreStateless = (known : HubHistory) → AreSound known.world → AreSentLawful known.world (history known.world known.log) → fault_of known.world ≡ None → AreStateless known

-- The newest trees of a hub without calls over the next world are the newest ones that the hub had.
abbrev pub EpochsBeginWhereOneEnds : Type 0
EpochsBeginWhereOneEnds = (rules : Rules) (known : HubHistory) → OpensAtTheNewest known (next_world rules known)
