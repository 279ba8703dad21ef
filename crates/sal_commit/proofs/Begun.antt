-- The commits with which the next epoch begins.
use Rattle.std.proofs.Common.{◌≡◌, ℕ, suc, ◌-◌, ◌≤◌, ◌<◌, List, [], ◌∷◌, length, get_or, drop, set, take, refl, ap, sym, ◌∙◌, arith}
use Rattle.std.proofs.lemmas.List.{get_or_default}
use Rattle.sal_types.specs.declared.value.Store.{Store}
use Rattle.sal_schema.specs.declared.table.SchemaTable.{SchemaTable}
use Rattle.sal_rows.specs.Clash.{tip}
use Rattle.sal_tree.specs.declared.commit.Commit.{Commit}
use Rattle.sal_graft.specs.Following.{AreFollowing}
use Rattle.sal_graft.specs.Kept.{AreKept, chains_of, opening_in, ops_of}
use Rattle.sal_graft.proofs.Keeping.{AreKept-opening}
use Rattle.sal_graft.proofs.KeptLemmas.{tip-kept}
use Rattle.sal_history.specs.World.{version_from}
use Rattle.sal_commit.specs.Anew.{begun_anew, newest_of}
use Rattle.sal_commit.specs.Sound.{AreSoundSince}
use Rattle.sal_commit.specs.Stamps.{receipts_of}
use Rattle.sal_commit.proofs.Following.{AreFollowing-one}
use Rattle.sal_commit.proofs.Sounds.{AreSound-one, AreSoundSince-at}
use Rattle.sal_commit.proofs.VersionTables.{version-first}

newest-at : (o : Commit) (cs : List Commit) → newest_of o cs ≡ get_or (o ∷ cs) (length (o ∷ cs) - 1) (newest_of o cs)
newest-at o cs =
    let last : length (o ∷ cs) - 1 ≡ length cs = omega arith in
    get_or_default (o ∷ cs) (length cs) o (newest_of o cs) (omega arith) ∙ ap (λ i. get_or (o ∷ cs) i (newest_of o cs)) (sym last)

-- ---- properties of them

pub anew-kept : (cs : List Commit) → AreKept cs → AreKept (begun_anew cs)
anew-kept [] are = are
anew-kept (o ∷ cs) are = AreKept-opening (record o { receipt = (newest_of o cs).receipt; trees = (newest_of o cs).trees }) (are.numbers 0 o (omega arith) refl)

pub anew-ops : (cs : List Commit) → ops_of (begun_anew cs) ≡ []
anew-ops [] = refl
anew-ops (o ∷ cs) = refl

pub anew-chains : (cs : List Commit) → chains_of (begun_anew cs) ≡ []
anew-chains [] = refl
anew-chains (o ∷ cs) = refl

pub anew-receipts : (cs : List Commit) → 1 ≤ length cs → receipts_of (begun_anew cs) ≡ 0 ∷ []
anew-receipts [] some = absurd (omega (arith, some))
anew-receipts (o ∷ cs) some = let none : (newest_of o cs).receipt - (newest_of o cs).receipt ≡ 0 = omega arith in ap (λ r. r ∷ []) none

pub anew-opening : (cs : List Commit) (s : Store) → AreKept cs → opening_in (begun_anew cs) s ≡ tip (opening_in cs) (ops_of cs) s
anew-opening [] s are = absurd (omega (arith, are.opened))
anew-opening (o ∷ cs) s are = tip-kept (o ∷ cs) (newest_of o cs) s are (newest-at o cs)

pub anew-sound : (since : ℕ) (table : SchemaTable) (cs : List Commit) → since < length cs → AreSoundSince since table cs → AreSoundSince 0 table (begun_anew cs)
anew-sound since table [] reached sound = absurd (omega (arith, reached))
anew-sound since table (o ∷ cs) reached sound =
    let opening : Commit = record o { receipt = (newest_of o cs).receipt; trees = (newest_of o cs).trees } in
    AreSound-one table (opening ∷ []) opening refl
    (AreSoundSince-at since table table (o ∷ cs) (length (o ∷ cs) - 1) (newest_of o cs) refl (omega (arith, reached)) (omega arith) (newest-at o cs) sound)

pub anew-following : (cs : List Commit) → 1 ≤ length cs → AreFollowing cs → AreFollowing (begun_anew cs)
anew-following [] some following = absurd (omega (arith, some))
anew-following (o ∷ cs) some following =
    let opening : Commit = record o { receipt = (newest_of o cs).receipt; trees = (newest_of o cs).trees } in
    let last : length cs < length (o ∷ cs) = omega arith in
    AreFollowing-one (opening ∷ []) opening refl (following.stamped (length cs) o last)

pub anew-length : (cs : List Commit) → 1 ≤ length cs → 0 < length (begun_anew cs)
anew-length [] some = absurd (omega (arith, some))
anew-length (o ∷ cs) some = omega arith

-- ---- how they are made

pub anew-short : (cs : List Commit) → length cs < 2 → cs ≡ begun_anew cs
anew-short [] few = refl
anew-short (o ∷ []) few = refl
anew-short (o ∷ c ∷ cs) few = absurd (omega (arith, few))

pub anew-long : (cs : List Commit) (opening newest : Commit) → 1 ≤ length cs → opening ≡ get_or cs 0 opening → newest ≡ get_or cs (length cs - 1) newest → record opening { receipt = newest.receipt; trees = newest.trees } ∷ [] ≡ begun_anew cs
anew-long [] opening newest some at_first at_last = absurd (omega (arith, some))
anew-long (o ∷ cs) opening newest some at_first at_last =
    let last : length (o ∷ cs) - 1 ≡ length cs = omega arith in
    let is : newest ≡ newest_of o cs = at_last ∙ ap (λ i. get_or (o ∷ cs) i newest) last ∙ get_or_default (o ∷ cs) (length cs) newest o (omega arith) in
    λ i. (let c : Commit = record (at_first i) { receipt = (is i).receipt; trees = (is i).trees } in c) ∷ []

-- the first one alone
pub one-left : (cs : List Commit) (c : Commit) → 1 ≤ length cs → take 1 (set cs 0 c) ≡ c ∷ []
one-left [] c some = absurd (omega (arith, some))
one-left (o ∷ cs) c some = refl

-- ---- versions

pub one-version : (table : SchemaTable) (upgrades : List SchemaTable) (v : ℕ) → version_from (version_from table upgrades 1) (drop 1 upgrades) v ≡ version_from table upgrades (suc v)
one-version table [] v = refl
one-version table (next ∷ upgrades) v = ap (λ t. version_from t upgrades v) (version-first next upgrades)
