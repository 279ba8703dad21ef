-- The tables of a world's domains.
use Rattle.std.proofs.Common.{◌≡◌, ℕ, zero, suc, List, [], ◌∷◌, length, refl, ap}
use Rattle.std.specs.Prelude.{nat_lt}
use Rattle.std.proofs.lemmas.List.{length-map}
use Rattle.sal_history.specs.World.{Domain, last_of, table_of}
use Rattle.sal_script.specs.Tables.{Versions, has_domain, last_in, table_at, table_in, tables_of, versions_of}

-- they are found by the domain's number: the last version
pub table_in-tables_of : (world : List Domain) (domain : ℕ) → table_in (tables_of world) domain ≡ last_of world domain
table_in-tables_of [] domain = refl
table_in-tables_of (d ∷ world) zero = refl
table_in-tables_of (d ∷ world) (suc n) = table_in-tables_of world n

pub last_in-versions_of : (world : List Domain) (domain : ℕ) → last_in (versions_of world) domain ≡ last_of world domain
last_in-versions_of [] domain = refl
last_in-versions_of (d ∷ world) zero = refl
last_in-versions_of (d ∷ world) (suc n) = last_in-versions_of world n

-- and each version
pub table_at-versions_of : (world : List Domain) (version domain : ℕ) → table_at (versions_of world) version domain ≡ table_of world version domain
table_at-versions_of [] version domain = refl
table_at-versions_of (d ∷ world) version zero = refl
table_at-versions_of (d ∷ world) version (suc n) = table_at-versions_of world version n

-- and there are as many
pub has_domain-versions_of : (world : List Domain) (domain : ℕ) → has_domain (versions_of world) domain ≡ nat_lt domain (length world)
has_domain-versions_of world domain = ap (nat_lt domain) (length-map world (λ (d : Domain). versions d))
  where
    versions : Domain → Versions
    versions d = d.table ∷ d.upgrades
