-- Versions: the next one extends the older one, and has the table of a schema.
use Rattle.std.proofs.Common.{◌≡◌, ℕ, ◌≤◌, IsTrue, List, [], ◌∷◌, ◌++◌, length, map, take, drop, Result, Ok, Err, refl, sym, ap, ◌∙◌, subst}
use Rattle.std.proofs.lemmas.List.{take-append-drop, length-take-le}
use Rattle.sal_types.specs.Reading.{◌>>=◌, GivesUnless}
use Rattle.sal_stmt.specs.declared.stmt.Stmt.{Stmt}
use Rattle.sal_module.specs.declared.fault.BuildFault.{BuildFault}
use Rattle.sal_module.specs.declared.fault.BuildFault.TheVariants as Fault
use Rattle.sal_module.specs.Modules.{check}
use Rattle.sal_grouping.proofs.Parts.{TreeNode}
use Rattle.sal_grouping.specs.Augments.{Progress, target_faults}
use Rattle.sal_grouping.specs.Children.{child_faults}
use Rattle.sal_grouping.specs.Expand.{sized, unless_any, branch_of, expand, expanded}
use Rattle.sal_grouping.specs.Names.{name_faults}
use Rattle.sal_grouping.specs.Rows.{rows_of}
use Rattle.sal_grouping.specs.Versions.{nodes_on, judged_on, expanded_on}
use Rattle.sal_schema.specs.declared.table.SchemaTable.{SchemaTable}
use Rattle.sal_schema.specs.Valid.{IsTable}
use Rattle.sal_schema.specs.Versions.{Extends, table_on}
use Rattle.sal_schema.proofs.Grown.{on_extends, on_is_table}
use Rattle.sal_module_table.specs.Build.{build}
use Rattle.sal_module_table.specs.Build as spec
use Rattle.sal_module_table.specs.Versions.{branches, version, made, made_on, first, next}
use Rattle.sal_module_table.specs.declared.versions.Version.{Version}
use Rattle.sal_build.proofs.Appending.{HasFront, grows}
use Rattle.sal_build.proofs.Built.{IsBuiltOn, IsChecked, bind_ok, same_ok, unless_ok, checked, expanded_ok, IsJudged, judged_all, judged_on_all, sized_ok, forest_by}
use Rattle.sal_build.proofs.HeldRows.{rows-held}
use Rattle.sal_build.proofs.PartOf.{IsKnown, whole-known, part-of, on-known}
use Rattle.sal_build.proofs.Staged.{IsGrown, first-grown, next-grown}
use Rattle.sal_build.proofs.WholeTables.{tables-good}
use Rattle.sal_build.specs.Readable.{are_readable}
use Rattle.sal_build.specs.declared.versions.SchemaVersion.{SchemaVersion}
use Rattle.sal_build.specs.Versions.{tabled, IsReached, VersionsExtend, VersionsAreTables, FirstIsTable, FirstIsBuilt}

-- ---- the parts of a version

-- the nodes that grew, and what no pass found
record HasGrown (stmts : List Stmt) (old : ℕ) (before nodes : List TreeNode) : Type 0 where
  few : length nodes ≤ 65536
  children : child_faults (rows_of stmts) nodes ≡ []
  is : (nodes_on stmts old before).0 ≡ nodes

grown_ok : (stmts : List Stmt) (old : ℕ) (before nodes : List TreeNode) → expanded_on stmts old before ≡ Ok nodes → HasGrown stmts old before nodes
grown_ok stmts old before nodes e =
    let rows = rows_of stmts in
    let aimed = λ (progress : Progress). unless_any (target_faults rows progress.1) progress.0 in
    let apart = λ (forest : List TreeNode). unless_any (child_faults rows forest) forest in
    bind_ok (sized (nodes_on stmts old before) >>= aimed) apart nodes e (λ forest e1 e2.
    bind_ok (sized (nodes_on stmts old before)) aimed forest e1 (λ progress e3 e4.
    let (few, same1) = sized_ok (nodes_on stmts old before) progress e3 in
    let (targets, same2) = unless_ok (target_faults rows progress.1) progress.0 forest e4 in
    let (children, same3) = unless_ok (child_faults rows forest) forest nodes e2 in
    let is : (nodes_on stmts old before).0 ≡ nodes = ap (λ (p : Progress). p.0) same1 ∙ same2 ∙ same3 in
    record {
      few = subst (λ (ns : List TreeNode). length ns ≤ 65536) is few;
      children = subst (λ (ns : List TreeNode). child_faults rows ns ≡ []) same3 children;
      is = is;
    }))

built-by : (stmts : List Stmt) (nodes : List TreeNode) (whole : SchemaTable) → IsChecked stmts → name_faults stmts (rows_of stmts) ≡ [] → length nodes ≤ 65536 → child_faults (rows_of stmts) nodes ≡ [] → IsJudged stmts (forest_by stmts nodes) whole
    → IsBuiltOn stmts nodes whole
built-by stmts nodes whole good tree few children found =
    record { checked = good; tree = tree; few = few; children = children; names = found.0; types = found.1; lists = found.2; is = found.3 }

known-by : (stmts : List Stmt) (nodes : List TreeNode) (whole : SchemaTable) → IsGrown stmts nodes → IsBuiltOn stmts nodes whole → IsKnown stmts (version nodes whole)
known-by stmts nodes whole grown built = subst (λ (t : SchemaTable). IsKnown stmts (version nodes t)) built.is (whole-known stmts nodes grown)

-- ---- the first

record IsFirst (stmts : List Stmt) (v : Version) : Type 0 where
  built : IsBuiltOn stmts v.growth v.table
  grown : IsGrown stmts v.growth

first_ok : (stmts : List Stmt) (v : Version) → first stmts ≡ Ok v → IsFirst stmts v
first_ok stmts v e =
    bind_ok (check stmts) (λ modules. expanded modules (rows_of modules) >>= made modules) v e (λ modules e1 e2.
    let (good, same) = checked stmts modules e1 in
    let e3 : (expanded stmts (rows_of stmts) >>= made stmts) ≡ Ok v = ap (λ (m : List Stmt). expanded m (rows_of m) >>= made m) same ∙ e2 in
    bind_ok (expanded stmts (rows_of stmts)) (made stmts) v e3 (λ nodes e4 e5.
    bind_ok (spec.judged stmts (branches stmts nodes)) (λ table. Ok (version nodes table)) v e5 (λ table e6 e7.
    let (grown, is) = expanded_ok stmts nodes e4 in
    let few = subst (λ (ns : List TreeNode). length ns ≤ 65536) is grown.few in
    let children = subst (λ (ns : List TreeNode). child_faults (rows_of stmts) ns ≡ []) is grown.children in
    let built = built-by stmts nodes table good grown.names few children (judged_all stmts (branches stmts nodes) table e6) in
    let all = subst (IsGrown stmts) is (first-grown stmts (rows-held stmts good.profile) good.profile) in
    subst (IsFirst stmts) (same_ok (version nodes table) v e7) (record { built = built; grown = all }))))

-- ---- the next

pub record IsNext (stmts : List Stmt) (old : ℕ) (older v : Version) : Type 0 where
  whole : SchemaTable
  checked : IsChecked stmts
  built : IsBuiltOn stmts v.growth whole
  grew : (nodes_on stmts old older.growth).0 ≡ v.growth
  table : v.table ≡ table_on older.table whole

next_ok : (stmts : List Stmt) (old : ℕ) (older v : Version) → next stmts old older ≡ Ok v → IsNext stmts old older v
next_ok stmts old older v e =
    bind_ok (check stmts) (λ modules. expand modules >>= (λ all. expanded_on modules old older.growth) >>= made_on modules old older.table) v e (λ modules e1 e2.
    let (good, same) = checked stmts modules e1 in
    let e3 : (expand stmts >>= (λ all. expanded_on stmts old older.growth) >>= made_on stmts old older.table) ≡ Ok v =
    ap (λ (m : List Stmt). expand m >>= (λ all. expanded_on m old older.growth) >>= made_on m old older.table) same ∙ e2 in
    bind_ok (expand stmts >>= (λ all. expanded_on stmts old older.growth)) (made_on stmts old older.table) v e3 (λ nodes e4 e5.
    bind_ok (expand stmts) (λ all. expanded_on stmts old older.growth) nodes e4 (λ all e6 e7.
    bind_ok (expanded stmts (rows_of stmts)) (λ nodes. Ok (map (branch_of (rows_of stmts)) nodes)) all e6 (λ once e8 e9.
    bind_ok (spec.judged_on old stmts (branches stmts nodes)) (λ whole. Ok (version nodes (table_on older.table whole))) v e5 (λ whole e10 e11.
    let (names, is) = expanded_ok stmts once e8 in
    let grown = grown_ok stmts old older.growth nodes e7 in
    let built = built-by stmts nodes whole good names.names grown.few grown.children (judged_on_all old stmts (branches stmts nodes) whole e10) in
    subst (IsNext stmts old older) (same_ok (version nodes (table_on older.table whole)) v e11) (record { whole = whole; checked = good; built = built; grew = grown.is; table = refl }))))))

pub versions_extend : VersionsExtend
versions_extend stmts old older v e =
    let it = next_ok stmts old older v e in
    subst (λ (t : SchemaTable). Extends t older.table) (sym it.table) (on_extends older.table it.whole)

-- ---- all of them

next-of : (first rest : List Stmt) (older v : Version) → IsKnown first older → IsNext (first ++ rest) (length first) older v → IsGrown (first ++ rest) v.growth
next-of first rest older v known it =
    let stmts = first ++ rest in
    let held = rows-held stmts it.checked.profile in
    subst (IsGrown stmts) it.grew (next-grown first rest older.growth held it.checked.profile known.grown)

pub next-known : (first rest : List Stmt) (older v : Version) → IsKnown first older → IsNext (first ++ rest) (length first) older v → IsKnown (first ++ rest) v
next-known first rest older v known it =
    let stmts = first ++ rest in
    let grown = next-of first rest older v known it in
    let whole = known-by stmts v.growth it.whole grown it.built in
    let front = subst (λ (ns : List TreeNode). HasFront older.growth ns) it.grew (grows stmts (length first) older.growth) in
    let part = part-of first rest older (version v.growth it.whole) known whole front in
    subst (λ (t : SchemaTable). IsKnown stmts (version v.growth t)) (sym it.table) (on-known stmts older.table it.whole v.growth part whole)

pub next-table : (first rest : List Stmt) (older v : Version) → IsTrue (are_readable (first ++ rest)) → IsTable older.table → IsKnown first older → IsNext (first ++ rest) (length first) older v → IsTable v.table
next-table first rest older v readable table known it =
    let stmts = first ++ rest in
    let grown = next-of first rest older v known it in
    let whole = known-by stmts v.growth it.whole grown it.built in
    let front = subst (λ (ns : List TreeNode). HasFront older.growth ns) it.grew (grows stmts (length first) older.growth) in
    let part = part-of first rest older (version v.growth it.whole) known whole front in
    let good = tables-good stmts v.growth it.whole readable it.built grown in
    subst IsTable (sym it.table) (on_is_table older.table it.whole table good part)

-- the statements as the first `old` ones and the rest
split : (stmts : List Stmt) (old : ℕ) (older v : Version) → old ≤ length stmts → IsNext stmts old older v → IsNext (take old stmts ++ drop old stmts) (length (take old stmts)) older v
split stmts old older v h it =
    subst (λ (all : List Stmt). IsNext all (length (take old stmts)) older v) (sym (take-append-drop old stmts)) (subst (λ n. IsNext stmts n older v) (sym (length-take-le old stmts h)) it)

version-known : (olds : List ℕ) (stmts : List Stmt) (v : Version) → IsReached olds stmts v → IsKnown stmts v
version-known [] stmts v e = let it = first_ok stmts v e in known-by stmts v.growth v.table it.grown it.built
version-known (old ∷ olds) stmts v (older, h, reached, e) =
    let known = version-known olds (take old stmts) older reached in
    subst (λ (all : List Stmt). IsKnown all v) (take-append-drop old stmts) (next-known (take old stmts) (drop old stmts) older v known (split stmts old older v h (next_ok stmts old older v e)))

pub versions_are_tables : VersionsAreTables
versions_are_tables stmts old older v readable h is table e =
    let known = version-known is.0 (take old stmts) older is.1 in
    let all : IsTrue (are_readable (take old stmts ++ drop old stmts)) = ap are_readable (take-append-drop old stmts) ∙ readable in
    next-table (take old stmts) (drop old stmts) older v all table known (split stmts old older v h (next_ok stmts old older v e))

pub first_is_table : FirstIsTable
first_is_table stmts v readable e = let it = first_ok stmts v e in tables-good stmts v.growth v.table readable it.built it.grown

-- ---- the first version and `build`

table-of : (judged : Result SchemaTable BuildFault) (nodes : List TreeNode) → ((judged >>= (λ table. Ok (version nodes table))) >>= (λ (v : Version). Ok v.table)) ≡ judged
table-of (Ok table) nodes = refl
table-of (Err fault) nodes = refl

made-of : (modules : List Stmt) (grown : Result (List TreeNode) BuildFault)
    → ((grown >>= made modules) >>= (λ (v : Version). Ok v.table)) ≡ ((grown >>= (λ nodes. Ok (map (branch_of (rows_of modules)) nodes))) >>= spec.judged modules)
made-of modules (Ok nodes) = table-of (spec.judged modules (branches modules nodes)) nodes
made-of modules (Err fault) = refl

first-of : (checked : Result (List Stmt) BuildFault)
    → ((checked >>= (λ modules. expanded modules (rows_of modules) >>= made modules)) >>= (λ (v : Version). Ok v.table)) ≡ (checked >>= (λ modules. expand modules >>= spec.judged modules))
first-of (Ok modules) = made-of modules (expanded modules (rows_of modules))
first-of (Err fault) = refl

pub first_is_built : FirstIsBuilt
first_is_built stmts = first-of (check stmts)

pub schema_of : (stmts : List Stmt) (result : Result SchemaVersion BuildFault) → GivesUnless Fault.NoMemory tabled result (first stmts)
    → GivesUnless Fault.NoMemory (λ v. v.schema) result (build stmts)
schema_of stmts (Ok v) e = sym (first_is_built stmts) ∙ ap (λ (r : Result Version BuildFault). r >>= (λ (v : Version). Ok v.table)) e
schema_of stmts (Err fault) e = λ other. sym (first_is_built stmts) ∙ ap (λ (r : Result Version BuildFault). r >>= (λ (v : Version). Ok v.table)) (e other)
