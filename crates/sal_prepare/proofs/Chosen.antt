-- The versions of one domain, and the last ones of all.
use Rattle.std.proofs.Common.{◌≡◌, ℕ, zero, suc, ◌-◌, ◌<◌, ◌≤◌, List, [], ◌∷◌, length, map, take, drop, get_or, Some, refl, ap, sym, ◌∙◌, subst, arith}
use Rattle.std.proofs.lemmas.Slice.{between_to_end}
use Rattle.std.specs.Prelude.{slice_get, unwrap_or}
use Rattle.std.specs.declared.alloc.Global.{Global}
use Rattle.std.specs.declared.sync.Arc.{Arc}
use Rattle.sal_schema.specs.declared.table.SchemaTable.{SchemaTable}
use Rattle.sal_history.specs.World.{version_from}
use Rattle.sal_script.specs.Tables.{first_among, last_among, later_among, versions_in}
use Rattle.sal_client.specs.Lists.{alone, versions_by}
use Rattle.sal_versions.specs.Shared.{tables_in}

abbrev Shared : Type 0
Shared = Arc SchemaTable Global

-- ---- one domain

device_got : (devices : List Shared) (n : ℕ) (s : Shared) → n < length devices → s ≡ get_or devices n s → unwrap_or (slice_get (map alone (tables_in devices)) n) [] ≡ s.value ∷ []
device_got [] n s within is = absurd (omega (arith, within))
device_got (x ∷ devices) zero s within is = ap (λ (y : Shared). y.value ∷ []) (sym is)
device_got (x ∷ devices) (suc n) s within is = device_got devices n s (omega (arith, within)) is

-- a device has one version
pub device_versions : (own : List SchemaTable) (devices : List Shared) (n : ℕ) (s : Shared) → 0 < n → n - 1 < length devices → s ≡ get_or devices (n - 1) s
    → versions_in (versions_by own (tables_in devices)) n ≡ s.value ∷ []
device_versions own devices zero s some within is = absurd (omega (arith, some))
device_versions own devices (suc n) s some within is =
    let same : suc n - 1 ≡ n = omega arith in
    device_got devices n s (subst (λ k. k < length devices) same within) (is ∙ ap (λ (k : ℕ). get_or devices k s) same)

-- version 0, and those after it
pub first_shared : (versions : List Shared) (s : Shared) → 1 ≤ length versions → s ≡ get_or versions 0 s → s.value ≡ first_among (tables_in versions)
first_shared [] s some is = absurd (omega (arith, some))
first_shared (v ∷ versions) s some is = ap (λ (y : Shared). y.value) is

pub later_shared : (versions : List Shared) → tables_in (take (length versions - 1) (drop 1 versions)) ≡ later_among (tables_in versions)
later_shared versions = ap tables_in (between_to_end versions 1 (length versions) (omega arith)) ∙ by versions
  where
    by : (versions : List Shared) → tables_in (drop 1 versions) ≡ later_among (tables_in versions)
    by [] = refl
    by (v ∷ versions) = refl

-- ---- the last versions

own_last : (t : Shared) (ts : List Shared) (s : Shared) → s ≡ get_or (t ∷ ts) (length ts) s → s.value ≡ version_from t.value (tables_in ts) (length (tables_in ts))
own_last t [] s is = ap (λ (y : Shared). y.value) is
own_last t (next ∷ ts) s is = own_last next ts s is

pub last_own : (own : List Shared) (s : Shared) → 1 ≤ length own → s ≡ get_or own (length own - 1) s → s.value ≡ last_among (tables_in own)
last_own [] s some is = absurd (omega (arith, some))
last_own (t ∷ ts) s some is =
    let same : length (t ∷ ts) - 1 ≡ length ts = omega arith in
    own_last t ts s (is ∙ ap (λ (k : ℕ). get_or (t ∷ ts) k s) same)

each_alone : (devices : List SchemaTable) → map last_among (map alone devices) ≡ devices
each_alone [] = refl
each_alone (t ∷ devices) = ap (λ (ts : List SchemaTable). t ∷ ts) (each_alone devices)

-- the last version of domain 0, and then the devices
pub last_versions : (own devices : List SchemaTable) → (last_among own ∷ devices) ≡ map last_among (versions_by own devices)
last_versions own devices = ap (λ (ts : List SchemaTable). last_among own ∷ ts) (sym (each_alone devices))
