-- The state of a domain: its schema versions and its commits.
use Rattle.std.specs.Prelude.{◌≡◌, ◌<◌, vec_capacity, vec_len}
use Rattle.sal_commit.specs.declared.domain.Domain.{Domain}

-- only the commits may differ
pub record IsSame (old new : Domain) : Type 0 where
  pub number : new.number ≡ old.number
  pub live : new.live ≡ old.live
  pub schema : new.schema ≡ old.schema
  pub first : new.first ≡ old.first
  pub upgrades : new.upgrades ≡ old.upgrades
  pub version : new.version ≡ old.version
  pub since : new.since ≡ old.since
  pub rules : new.rules ≡ old.rules

-- there is room for one more commit
abbrev pub is_roomy : Domain → Type 0
is_roomy d = vec_len d.commits < vec_capacity d.commits
