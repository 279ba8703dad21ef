-- Each version of domain 0 extends the one before.
use Rattle.std.proofs.Common.{◌≡◌, ℕ, ◌+◌, List, [], ◌∷◌, ◌++◌, length, Result, Ok, Err, subst}
use Rattle.sal_module.specs.declared.fault.BuildFault.{BuildFault}
use Rattle.sal_schema.specs.declared.table.SchemaTable.{SchemaTable}
use Rattle.sal_schema.specs.Versions.{Extends}
use Rattle.sal_module_table.specs.Versions.{first, next}
use Rattle.sal_build.specs.Versions.{VersionsExtend}
use Rattle.sal_versions.specs.Schemas.{statements_from, in_words}
use Rattle.sal_versions.specs.Versions.{AreInOrder, VersionsAreInOrder, Versions, first_built, first_of, next_of, or_upgrade, tables_of, upgraded, with_latest, with_more}
use Rattle.sal_versions.proofs.Bound.{bind_ok, same_ok}

-- ---- a result is the result of each step

in_words-ok : {A : Type 0} (made : Result A BuildFault) (x : A) → in_words made ≡ Ok x → made ≡ Ok x
in_words-ok (Ok y) x e = cc
in_words-ok (Err fault) x e = cc

upgrade-ok : {A : Type 0} (u : ℕ) (made : Result A (List ℕ)) (x : A) → or_upgrade u made ≡ Ok x → made ≡ Ok x
upgrade-ok u (Ok y) x e = cc
upgrade-ok u (Err text) x e = cc

-- ---- each after the one before

-- one more after the last one
one-more : (olds : List SchemaTable) (latest newer : SchemaTable) → AreInOrder (olds ++ latest ∷ []) → Extends newer latest → AreInOrder ((olds ++ latest ∷ []) ++ newer ∷ [])
one-more [] latest newer is extends = (extends, tt)
one-more (old ∷ []) latest newer is extends = (is.0, (extends, tt))
one-more (old ∷ older ∷ olds) latest newer is extends = (is.0, one-more (older ∷ olds) latest newer is.1 extends)

next-in-order : VersionsExtend → (versions more : Versions) (texts : List (List ℕ)) → next_of versions texts ≡ Ok more → AreInOrder (tables_of versions) → AreInOrder (tables_of more)
next-in-order law versions more texts e are =
    let read = bind_ok (statements_from (length versions.stmts) texts) (with_more versions) more e in
    let joined : Versions = record { stmts = versions.stmts ++ read.0; olds = versions.olds; latest = versions.latest } in
    let built = bind_ok (in_words (next joined.stmts (length versions.stmts) joined.latest)) (λ v. Ok (with_latest joined v)) more read.2 in
    let extends = law joined.stmts (length versions.stmts) joined.latest built.0 (in_words-ok (next joined.stmts (length versions.stmts) joined.latest) built.0 built.1) in
    subst (λ (it : Versions). AreInOrder (tables_of it)) (same_ok built.2) (one-more versions.olds versions.latest.table built.0.table are extends)

upgraded-in-order : VersionsExtend → (u : ℕ) (versions more : Versions) (upgrades : List (List (List ℕ))) → upgraded u versions upgrades ≡ Ok more → AreInOrder (tables_of versions) → AreInOrder (tables_of more)
upgraded-in-order law u versions more [] e are = subst (λ (it : Versions). AreInOrder (tables_of it)) (same_ok e) are
upgraded-in-order law u versions more (texts ∷ rest) e are =
    let one = bind_ok (or_upgrade u (next_of versions texts)) (λ now. upgraded (u + 1) now rest) more e in
    upgraded-in-order law (u + 1) one.0 more rest one.2 (next-in-order law versions one.0 texts (upgrade-ok u (next_of versions texts) one.0 one.1) are)

-- all versions of a domain
pub in_order : VersionsExtend → VersionsAreInOrder
in_order law modules upgrades versions e =
    let own = bind_ok (first_of modules) (λ own. upgraded 1 own upgrades) versions e in
    let read = bind_ok (statements_from 0 modules) first_built own.0 own.1 in
    let built = bind_ok (in_words (first read.0)) (λ v. Ok (record { stmts = read.0; olds = []; latest = v })) own.0 read.2 in
    upgraded-in-order law 1 own.0 versions upgrades own.2 (subst (λ (it : Versions). AreInOrder (tables_of it)) (same_ok built.2) tt)
