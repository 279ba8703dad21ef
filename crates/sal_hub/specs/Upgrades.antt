-- An upgrade: why it is refused, and its effect.
use Rattle.std.specs.Prelude.{◌≡◌, ℕ, ◌+◌, List, [], ◌∷◌, not, length, nat_eq, Option, None, Some, Result, MatchResult, slice_get}
use Rattle.std.specs.Option.{option_map_or, option_or}
use Rattle.sal_rows.specs.declared.outcome.CallFault.{CallFault}
use Rattle.sal_rows.specs.declared.outcome.CallFault.TheVariants.{WrongVersion}
use Rattle.sal_commit.specs.declared.domain.Domain.{Domain}
use Rattle.sal_commit.specs.declared.versions.NextVersion.{NextVersion}
use Rattle.sal_commit.specs.Versions.{newest_in, upgrade_fault, version_in}
use Rattle.sal_history.specs.History.{fault_if}
use Rattle.sal_history.specs.Versions.{broken_by}
use Rattle.sal_history.specs.World as world
use Rattle.sal_history.specs.World.{version_from}
use Rattle.sal_hub.specs.PipelineView.{DomainView, PipelineView}

-- the number of versions of the controller's own domain after the first one
abbrev pub upgrades_of : List world.Domain → ℕ
upgrades_of domains = option_map_or (λ (d : world.Domain). length d.upgrades) (slice_get domains 0) 0

-- why the upgrade of the domain to the version is refused: it is not the next one, or a newest tree would break a rule of it
abbrev pub refusal_of : Domain → ℕ → Option CallFault
refusal_of d version = option_or (fault_if (not (nat_eq (d.version + 1) version)) (WrongVersion d.version)) (broken_by (version_in d version) (newest_in d))

-- the version, or why it is refused
abbrev pub IsReady : Domain → ℕ → Result NextVersion CallFault → Type 0
IsReady d version ready = MatchResult ready
    (λ next. (refusal_of d version ≡ None) × (upgrade_fault d version ≡ None) × (next.number ≡ version) × (next.schema.value ≡ version_in d version))
    (λ fault. refusal_of d version ≡ Some fault)

-- the first domain is at the version, and its newest commit is the one at the last upgrade
abbrev pub with_version : List DomainView → ℕ → List DomainView
with_version [] version = []
with_version (d ∷ ds) version = record d { table = version_from d.first d.upgrades version; version = version; since = length d.ops } ∷ ds

abbrev pub set_version : PipelineView → ℕ → PipelineView
set_version queue version = record queue { domains = with_version queue.domains version }
