-- The versions of a script from one on.
use Rattle.std.proofs.Common.{◌≡◌, ◌&&◌, ℕ, zero, suc, ◌<◌, ◌≤◌, true, false, List, [], ◌∷◌, drop, length, map, get_or, refl, ap, sym, ◌∙◌, arith, IsTrue}
use Rattle.std.specs.Prelude.{nat_lt}
use Rattle.std.specs.declared.alloc.Global.{Global}
use Rattle.std.specs.declared.sync.Arc.{Arc}
use Rattle.std.proofs.lemmas.Bool.{and_parts}
use Rattle.std.proofs.lemmas.Bool.Decides.{nat_tests}
use Rattle.std.proofs.lemmas.List.{length-map}
use Rattle.sal_schema.specs.declared.table.SchemaTable.{SchemaTable}
use Rattle.sal_schema.specs.Fitting.{is_closed}
use Rattle.sal_history.specs.declared.opening.Opening.{Opening}
use Rattle.sal_client.specs.Lists.{alone, begun_with, from_version, versions_by}
use Rattle.sal_client.proofs.FromVersion.{few-dropped, some-left}
use Rattle.sal_script.specs.Tables.{first_among, first_in, table_at, version_among, versions_in}
use Rattle.sal_prepare.specs.Resumed.{are_of_version}
use Rattle.sal_prepare.specs.Scripted.{tables_in, versions_shared}
use Rattle.sal_prepare.specs.declared.domains.Schemas.{Schemas}

abbrev pub Lent : Type 0
Lent = List (Arc SchemaTable Global)

-- ---- one version

pub at-version : (xs : Lent) (v : ℕ) (x : Arc SchemaTable Global) → v < length xs → x ≡ get_or xs v x → x.value ≡ version_among (tables_in xs) v
at-version [] v x inside is = absurd (omega (arith, inside))
at-version (y ∷ []) zero x inside is = ap (λ (z : Arc SchemaTable Global). z.value) is
at-version (y ∷ z ∷ xs) zero x inside is = ap (λ (z : Arc SchemaTable Global). z.value) is
at-version (y ∷ []) (suc v) x inside is = absurd (omega (arith, inside))
at-version (y ∷ z ∷ xs) (suc v) x inside is = at-version (z ∷ xs) v x (omega (arith, inside)) is

first-from : (own : List SchemaTable) (v : ℕ) → first_among (from_version v own) ≡ version_among own v
first-from [] zero = refl
first-from [] (suc v) = refl
first-from (t ∷ []) zero = refl
first-from (t ∷ next ∷ ts) zero = refl
first-from (t ∷ []) (suc v) = refl
first-from (t ∷ next ∷ ts) (suc v) = first-from (next ∷ ts) v

pub first-begun : (tables : List (List SchemaTable)) (v : ℕ) → first_in (begun_with v tables) 0 ≡ table_at tables v 0
first-begun [] v = refl
first-begun (own ∷ devices) v = first-from own v

-- ---- the test

module _ (tables : List (List SchemaTable)) (v : ℕ) (o : Opening) where
  pub none-of : length (versions_in tables 0) ≤ v → false ≡ are_of_version tables v o
  none-of past =
      let test : nat_lt v (length (versions_in tables 0)) ≡ false = grind (arith, nat_tests, past) in
      sym (ap (λ b. b && (is_closed (table_at tables v 0) o.config && is_closed (table_at tables v 0) o.oper)) test)

  pub one-of : (table : SchemaTable) → v < length (versions_in tables 0) → table ≡ table_at tables v 0 → (is_closed table o.config && is_closed table o.oper) ≡ are_of_version tables v o
  one-of table inside is =
      let test : nat_lt v (length (versions_in tables 0)) ≡ true = grind (arith, nat_tests, inside) in
      (λ i. is_closed (is i) o.config && is_closed (is i) o.oper) ∙ sym (ap (λ b. b && (is_closed (table_at tables v 0) o.config && is_closed (table_at tables v 0) o.oper)) test)

  module _ (holds : are_of_version tables v o ≡ true) where
    pub inside-of : v < length (versions_in tables 0)
    inside-of =
        let (test, rest) = and_parts (nat_lt v (length (versions_in tables 0))) (is_closed (table_at tables v 0) o.config && is_closed (table_at tables v 0) o.oper) holds in
        grind (arith, nat_tests, test)

    pub closed-of : IsTrue (is_closed (table_at tables v 0) o.config) × IsTrue (is_closed (table_at tables v 0) o.oper)
    closed-of =
        let (test, rest) = and_parts (nat_lt v (length (versions_in tables 0))) (is_closed (table_at tables v 0) o.config && is_closed (table_at tables v 0) o.oper) holds in
        and_parts (is_closed (table_at tables v 0) o.config) (is_closed (table_at tables v 0) o.oper) rest

-- ---- the schemas from a version on

pub tables-dropped : (v : ℕ) (xs : Lent) → tables_in (drop v xs) ≡ drop v (tables_in xs)
tables-dropped zero xs = refl
tables-dropped (suc v) [] = refl
tables-dropped (suc v) (x ∷ xs) = tables-dropped v xs

module _ (all later : Schemas) (v : ℕ) (own : tables_in later.own.items ≡ drop v (tables_in all.own.items)) (devices : tables_in later.devices.items ≡ tables_in all.devices.items) (inside : v < length (tables_in all.own.items)) where
  pub shared-from : versions_shared later ≡ begun_with v (versions_shared all)
  shared-from = (λ i. versions_by (own i) (devices i)) ∙ ap (λ (ts : List SchemaTable). ts ∷ map alone (tables_in all.devices.items)) (few-dropped (tables_in all.own.items) v inside)

  pub some-own : 1 ≤ length later.own.items
  some-own =
      let same = length-map later.own.items (λ (s : Arc SchemaTable Global). s.value) in
      let left : 0 < length (from_version v (tables_in all.own.items)) = some-left (tables_in all.own.items) v (omega (arith, inside)) in
      let long : length (tables_in later.own.items) ≡ length (from_version v (tables_in all.own.items)) = ap length (own ∙ few-dropped (tables_in all.own.items) v inside) in
      omega (arith, same, left, long)

  pub as-many : length later.devices.items ≡ length all.devices.items
  as-many = sym (length-map later.devices.items (λ (s : Arc SchemaTable Global). s.value)) ∙ ap length devices ∙ length-map all.devices.items (λ (s : Arc SchemaTable Global). s.value)
