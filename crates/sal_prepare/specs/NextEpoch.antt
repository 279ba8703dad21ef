-- The versions by which the world of the next epoch is read.
use Rattle.std.specs.Prelude.{◌≡◌}
use Rattle.sal_rows.specs.declared.clash.Rules.{Rules}
use Rattle.sal_history.specs.History.{history}
use Rattle.sal_history.specs.Versions.{schema_version}
use Rattle.sal_history.specs.World.{OneIsUpgraded}
use Rattle.sal_hub.specs.Epochs.{next_world}
use Rattle.sal_hub.specs.HubHistory.{HubHistory}
use Rattle.sal_script.specs.Tables.{tables_of, versions_of}
use Rattle.sal_client.specs.Lists.{begun_with}

-- They are those of the world before without the ones before the present version of domain 0 (`Readers::begin_with`), and the last versions are the
-- same. Premise: only domain 0 has more than one version, as in each hub.
abbrev pub EpochsReadOn : Type 0
EpochsReadOn =
    (rules : Rules) (known : HubHistory) → OneIsUpgraded known.world
    → (versions_of (next_world rules known) ≡ begun_with (schema_version (history known.world known.log)) (versions_of known.world)) × (tables_of (next_world rules known) ≡ tables_of known.world)
