-- The versions from one on are what is left without those before it.
use Rattle.std.proofs.Common.{◌≡◌, ℕ, zero, suc, ◌+◌, ◌<◌, ◌≤◌, List, [], ◌∷◌, length, drop, refl, arith}
use Rattle.sal_schema.specs.declared.table.SchemaTable.{SchemaTable}
use Rattle.sal_client.specs.Lists.{from_version}

pub few-dropped : (own : List SchemaTable) (version : ℕ) → version < length own → drop version own ≡ from_version version own
few-dropped [] version inside = absurd (omega (arith, inside))
few-dropped (table ∷ upgrades) zero inside = refl
few-dropped (table ∷ []) (suc version) inside = absurd (omega (arith, inside))
few-dropped (table ∷ next ∷ upgrades) (suc version) inside = few-dropped (next ∷ upgrades) version (omega (arith, inside))

-- and the last one, if there are fewer
pub last-left : (own : List SchemaTable) (last version : ℕ) → last + 1 ≡ length own → length own ≤ version → drop last own ≡ from_version version own
last-left [] last version is past = absurd (omega (arith, is))
last-left (table ∷ []) zero zero is past = absurd (omega (arith, past))
last-left (table ∷ []) zero (suc version) is past = refl
last-left (table ∷ []) (suc last) version is past = absurd (omega (arith, is))
last-left (table ∷ next ∷ upgrades) zero version is past = absurd (omega (arith, is))
last-left (table ∷ next ∷ upgrades) (suc last) zero is past = absurd (omega (arith, past))
last-left (table ∷ next ∷ upgrades) (suc last) (suc version) is past = last-left (next ∷ upgrades) last version (omega (arith, is)) (omega (arith, past))

-- one is left
pub some-left : (own : List SchemaTable) (version : ℕ) → 0 < length own → 0 < length (from_version version own)
some-left [] version some = some
some-left (table ∷ upgrades) zero some = some
some-left (table ∷ []) (suc version) some = some
some-left (table ∷ next ∷ upgrades) (suc version) some = some-left (next ∷ upgrades) version (omega (arith))
