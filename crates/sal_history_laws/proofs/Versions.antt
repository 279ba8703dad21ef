-- Versions of a sound world: their tables, and what stays lawful and closed by each later one.
use Rattle.std.proofs.Common.{ℕ, zero, suc, ◌≤◌, List, [], ◌∷◌, ◌++◌, refl, sym, ◌∙◌, subst, arith}
use Rattle.std.specs.Prelude.{IsTrue}
use Rattle.sal_rows.specs.Apply.{apply_ops}
use Rattle.sal_schema.specs.Fitting.{is_closed}
use Rattle.sal_schema.specs.Valid.{IsTable}
use Rattle.sal_schema.specs.Versions.{Extends}
use Rattle.sal_schema.proofs.ShownTables.{shown}
use Rattle.sal_schema.proofs.Stays.{extends-itself, rows_stay}
use Rattle.sal_rules.proofs.Versions.{operations_stay, refusals_stay}
use Rattle.sal_history.specs.Submissions.{Sent}
use Rattle.sal_history.specs.Versions.{schema_version}
use Rattle.sal_history.specs.World.{Domain, no_table, opening_of, table_of, tree_of_opening, version_in}
use Rattle.sal_history.proofs.Versions.{first-version, later-extends, schema_version-rises}
use Rattle.sal_history_laws.specs.Laws.{ClosedStays, LawfulStays, SentsStayLawful}
use Rattle.sal_history_laws.specs.Lawful.{AreClosed, AreLawful}
use Rattle.sal_history_laws.specs.Logs.{AreSound}

pub no_table-IsTable : IsTable no_table
no_table-IsTable = shown no_table (record { nodes = omega arith; types = omega arith; modules = omega arith; identities = omega arith }) refl refl

-- ---- a sound world

pub table_is : (world : List Domain) (v number : ℕ) → AreSound world → IsTable (table_of world v number)
table_is [] v number sound = no_table-IsTable
table_is (d ∷ world) v zero sound = (sound 0 d refl).tables v
table_is (d ∷ world) v (suc n) sound = table_is world v n (λ k e at. sound (suc k) e at)

-- each later version extends each earlier one
pub versions_extend : (world : List Domain) (v w number : ℕ) → AreSound world → v ≤ w → Extends (table_of world w number) (table_of world v number)
versions_extend [] v w number sound le = extends-itself no_table
versions_extend (d ∷ world) v w zero sound le = later-extends (version_in d) (sound 0 d refl).chain v w le
versions_extend (d ∷ world) v w (suc n) sound le = versions_extend world v w n (λ k e at. sound (suc k) e at) le

-- the opening trees are closed by version 0
pub opening_is : (world : List Domain) (number : ℕ) → AreSound world → AreClosed (table_of world 0 number) (opening_of world number)
opening_is [] number sound s = refl
opening_is (d ∷ world) zero sound s = subst (λ t. IsTrue (is_closed t (tree_of_opening d.opening s))) (sym (first-version d.table d.upgrades)) ((sound 0 d refl).opening s)
opening_is (d ∷ world) (suc n) sound s = opening_is world n (λ k e at. sound (suc k) e at) s

-- ---- properties that stay

pub lawful_stays : LawfulStays
lawful_stays newer older base earlier [] good extends lawful = tt
lawful_stays newer older base earlier (op ∷ ops) good extends lawful = (
  λ writes.
      let (right, allowed) = lawful.0 writes in
      (operations_stay newer older op good extends right, refusals_stay newer older (apply_ops (base op.store) op.store earlier) op good extends right ∙ allowed),
  lawful_stays newer older base (earlier ++ op ∷ []) ops good extends lawful.1,
)

pub closed_stays : ClosedStays
closed_stays newer older trees good extends closed s = rows_stay newer older [] (trees s) good extends (closed s)

-- operations that are lawful at a version are lawful at each later one
pub later_lawful : (world : List Domain) (v w : ℕ) (s : Sent) → AreSound world → v ≤ w → AreLawful (table_of world v s.base.domain) s.base.trees [] s.ops → AreLawful (table_of world w s.base.domain) s.base.trees [] s.ops
later_lawful world v w s sound le = lawful_stays (table_of world w s.base.domain) (table_of world v s.base.domain) s.base.trees [] s.ops (table_is world v s.base.domain sound) (versions_extend world v w s.base.domain sound le)

pub sents_stay_lawful : SentsStayLawful
sents_stay_lawful world answered a s sound = later_lawful world (schema_version answered) (schema_version (answered ++ a ∷ [])) s sound (schema_version-rises answered a)

-- the opening trees are closed by each version
pub opening_by : (world : List Domain) (v number : ℕ) → AreSound world → AreClosed (table_of world v number) (opening_of world number)
opening_by world v number sound =
    closed_stays (table_of world v number) (table_of world 0 number) (opening_of world number) (table_is world 0 number sound) (versions_extend world 0 v number sound (omega arith)) (opening_is world number sound)
