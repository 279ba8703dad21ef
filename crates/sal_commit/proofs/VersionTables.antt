-- The versions of a domain's schema, by index.
use Rattle.std.proofs.Common.{◌≡◌, ℕ, zero, suc, ◌+◌, ◌-◌, ◌<◌, ◌≤◌, List, [], ◌∷◌, ◌++◌, length, get_or, take, None, refl, ap, sym, ◌∙◌, arith}
use Rattle.std.specs.declared.alloc.Global.{Global}
use Rattle.std.specs.declared.sync.Arc.{Arc}
use Rattle.std.proofs.lemmas.List.{get_or_default, map-append, take_more}
use Rattle.sal_types.specs.declared.value.Store.{Store}
use Rattle.sal_types.specs.declared.row.Row.{Row}
use Rattle.sal_schema.specs.declared.table.SchemaTable.{SchemaTable}
use Rattle.sal_rules.specs.Breaches.{breach}
use Rattle.sal_tree.specs.declared.commit.Commit.{Commit}
use Rattle.sal_rows.specs.Clash.{tip}
use Rattle.sal_graft.specs.Kept.{AreKept, opening_in, ops_of}
use Rattle.sal_graft.proofs.KeptLemmas.{tip-kept}
use Rattle.sal_history.specs.World.{version_from}
use Rattle.sal_commit.specs.declared.domain.Domain.{Domain}
use Rattle.sal_commit.specs.Opening.{fault_over}
use Rattle.sal_commit.specs.Sound.{AreSoundSince, BreakNone}
use Rattle.sal_commit.specs.Versions.{newest_in, tables_of, upgrade_fault, version_in}
use Rattle.sal_commit.proofs.Sounds.{AreSoundSince-at, none-fault}

-- version 0 is the first one
pub version-first : (table : SchemaTable) (upgrades : List SchemaTable) → version_from table upgrades zero ≡ table
version-first table [] = refl
version-first table (next ∷ upgrades) = refl

-- and each later one is at the index before its number
pub version-at : (table : SchemaTable) (upgrades : List (Arc SchemaTable Global)) (v : ℕ) (s : Arc SchemaTable Global) → v < length upgrades → s ≡ get_or upgrades v s
    → version_from table (tables_of upgrades) (suc v) ≡ s.value
version-at table [] v s h at = absurd (omega (arith, h))
version-at table (x ∷ xs) zero s h at = version-first x.value (tables_of xs) ∙ sym (ap (λ (y : Arc SchemaTable Global). y.value) at)
version-at table (x ∷ xs) (suc v) s h at = version-at x.value xs v s (omega (arith, h)) at

-- a step of a loop that shares them
pub tables-more : (versions list list' : List (Arc SchemaTable Global)) (i : ℕ) (v w : Arc SchemaTable Global) → i < length versions → v ≡ get_or versions i v → w.value ≡ v.value → list' ≡ list ++ w ∷ []
    → tables_of list ≡ tables_of (take i versions) → tables_of list' ≡ tables_of (take (i + 1) versions)
tables-more versions list list' i v w h at same pushed so_far =
    ap tables_of pushed ∙ map-append (λ (x : Arc SchemaTable Global). x.value) list (w ∷ [])
    ∙ (λ j. so_far j ++ same j ∷ [])
    ∙ sym (map-append (λ (x : Arc SchemaTable Global). x.value) (take i versions) (v ∷ []))
    ∙ ap tables_of (ap (λ (x : Arc SchemaTable Global). take i versions ++ x ∷ []) at ∙ sym (take_more versions i v h))

-- ---- of a domain

pub version-of : (d : Domain) (number : ℕ) (s : Arc SchemaTable Global) → 1 ≤ number → number ≤ length d.upgrades.items → s ≡ get_or d.upgrades.items (number - 1) s → s.value ≡ version_in d number
version-of d number s low high at =
    let next : suc (number - 1) ≡ number = omega (arith, low) in
    sym (version-at d.first.value d.upgrades.items (number - 1) s (omega (arith, low, high)) at) ∙ ap (version_in d) next

pub next-fault : (d : Domain) (number : ℕ) (table : SchemaTable) (trees : Store → List Row) → table ≡ version_in d number → ((s : Store) → trees s ≡ newest_in d s) → fault_over table trees ≡ upgrade_fault d number
next-fault d number table trees is same = λ i. fault_over (is i) (λ s. same s i)

-- the newest trees break no rule by the version
pub newest-unbroken : (d : Domain) (number : ℕ) (table : SchemaTable) (c : Commit) → AreKept d.commits.items → upgrade_fault d number ≡ None → table ≡ version_in d number
    → c ≡ get_or d.commits.items (length d.commits.items - 1) c → BreakNone table c.trees
newest-unbroken d number table c are none is at s = (λ i. breach (is i) s (tip-kept d.commits.items c s are at i)) ∙ none-fault (version_in d number) (newest_in d) none s

-- the newest trees of a domain break no rule by its present version
pub present-unbroken : (d : Domain) → AreKept d.commits.items → (s : Store) → breach d.schema.value s (newest_in d s) ≡ None
present-unbroken d are s = by d.commits.items are d.reached d.sound
  where
    by : (cs : List Commit) → AreKept cs → d.since < length cs → AreSoundSince d.since d.schema.value cs → breach d.schema.value s (tip (opening_in cs) (ops_of cs) s) ≡ None
    by [] kept reached sound = absurd (omega (arith, reached))
    by (c ∷ cs) kept reached sound =
        let last : ℕ = length (c ∷ cs) - 1 in
        let short : last < length (c ∷ cs) = omega arith in
        let x : Commit = get_or (c ∷ cs) last c in
        let at : x ≡ get_or (c ∷ cs) last x = get_or_default (c ∷ cs) last c x short in
        let low : d.since ≤ last = omega (arith, reached) in
        ap (breach d.schema.value s) (sym (tip-kept (c ∷ cs) x s kept at)) ∙ AreSoundSince-at d.since d.schema.value d.schema.value (c ∷ cs) last x refl low short at sound s
