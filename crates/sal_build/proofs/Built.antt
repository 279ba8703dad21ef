-- The results of each pass over modules that have a table.
use Rattle.std.proofs.Common.{◌≡◌, ℕ, ◌≤◌, true, false, nat_lt, List, [], ◌∷◌, ◌++◌, length, map, Option, Some, None, is_some, Result, Ok, refl, sym, ap, ◌∙◌, inl, inr, arith}
use Rattle.std.proofs.lemmas.Bool.{cases_Bool}
use Rattle.std.proofs.lemmas.Bool.Decides.{nat_tests}
use Rattle.sal_types.specs.Reading.{◌>>=◌}
use Rattle.sal_stmt.specs.declared.stmt.Stmt.{Stmt}
use Rattle.sal_module.specs.declared.fault.Found.{Found}
use Rattle.sal_module.specs.Faults.{least, is_before}
use Rattle.sal_module.specs.Imports.{graph_faults}
use Rattle.sal_module.specs.Modules.{check, answer, first_of_two, first_fault}
use Rattle.sal_module.specs.Profile.{profile_faults}
use Rattle.sal_grouping.proofs.Parts.{TreeNode}
use Rattle.sal_grouping.specs.declared.forest.Branch.{Branch}
use Rattle.sal_grouping.specs.Augments.{Progress, target_faults}
use Rattle.sal_grouping.specs.Children.{child_faults}
use Rattle.sal_grouping.specs.Expand.{built, sized, branch_of, unless_any, judged, expanded, expand}
use Rattle.sal_grouping.specs.Groupings.{named_of}
use Rattle.sal_grouping.specs.Names.{name_faults}
use Rattle.sal_grouping.specs.Rows.{rows_of}
use Rattle.sal_schema.specs.declared.table.SchemaTable.{SchemaTable}
use Rattle.sal_module_table.specs.Build as spec
use Rattle.sal_module_table.specs.Build.{build, table_of}
use Rattle.sal_module_table.specs.Lists as lists
use Rattle.sal_module_table.specs.OldBases as old_bases
use Rattle.sal_module_table.specs.Types as types
pub use Rattle.sal_types.proofs.Handy.{bind_ok}

-- ---- steps

pub same_ok : {A F : Type 0} (x y : A) → ◌≡◌ {A = Result A F} (Ok x) (Ok y) → x ≡ y
same_ok x y e = cc

-- ---- faults

least-some : (best : Found) (xs : List Found) → is_some (least (Some best) xs) ≡ true
least-some best [] = refl
least-some best (x ∷ xs) = elim (cases_Bool (is_before x best)) [ inl e ↦ rw e (least-some x xs) | inr e ↦ rw e (least-some best xs) ]

-- if none counts there is none
pub none-found : (xs : List Found) → least None xs ≡ None → xs ≡ []
none-found [] e = refl
none-found (x ∷ xs) e = let some = ap is_some e in let no = least-some x xs in absurd (let wrong : true ≡ false = sym no ∙ some in cc)

pub judged_ok : {X : Type 0} (x y : X) (found : Option Found) → judged x found ≡ Ok y → (found ≡ None) × (x ≡ y)
judged_ok x y None e = (refl, same_ok x y e)
judged_ok x y (Some found) e = cc

pub unless_ok : {X : Type 0} (faults : List Found) (x y : X) → unless_any faults x ≡ Ok y → (faults ≡ []) × (x ≡ y)
unless_ok faults x y e = let (none, same) = judged_ok x y (least None faults) e in (none-found faults none, same)

-- ---- the passes

answer_ok : (stmts other : List Stmt) (found : Option Found) → answer stmts found ≡ Ok other → (found ≡ None) × (stmts ≡ other)
answer_ok stmts other None e = (refl, same_ok stmts other e)
answer_ok stmts other (Some found) e = cc

first_none : (one two : Option Found) → first_of_two one two ≡ None → (one ≡ None) × (two ≡ None)
first_none None two e = (refl, e)
first_none (Some found) two e = cc

pub record IsChecked (stmts : List Stmt) : Type 0 where
  pub few : length stmts ≤ 64
  pub profile : profile_faults stmts ≡ []
  pub graph : graph_faults stmts ≡ []

pub checked : (stmts other : List Stmt) → check stmts ≡ Ok other → IsChecked stmts × (stmts ≡ other)
checked stmts other e = elim (cases_Bool (nat_lt 64 (length stmts))) [
  | inl many ↦ (let no = rw many at e in cc)
  | inr few ↦
      let (none, same) = answer_ok stmts other (first_fault stmts) (rw few at e) in
      let (profile, graph) = first_none (least None (profile_faults stmts)) (least None (graph_faults stmts)) none in
      (record { few = grind (arith, nat_tests); profile = none-found (profile_faults stmts) profile; graph = none-found (graph_faults stmts) graph }, same)
]

-- the forest with its augments, and its nodes
abbrev pub progress_of : List Stmt → Progress
progress_of stmts = built stmts (rows_of stmts) (named_of stmts (rows_of stmts))

abbrev pub nodes_of : List Stmt → List TreeNode
nodes_of stmts = (progress_of stmts).0

abbrev pub forest_of : List Stmt → List Branch
forest_of stmts = map (branch_of (rows_of stmts)) (nodes_of stmts)

pub record IsExpanded (stmts : List Stmt) : Type 0 where
  pub names : name_faults stmts (rows_of stmts) ≡ []
  pub few : length (nodes_of stmts) ≤ 65536
  pub targets : target_faults (rows_of stmts) (progress_of stmts).1 ≡ []
  pub children : child_faults (rows_of stmts) (nodes_of stmts) ≡ []

pub sized_ok : (now other : Progress) → sized now ≡ Ok other → (length now.0 ≤ 65536) × (now ≡ other)
sized_ok now other e = elim (cases_Bool (nat_lt 65536 (length now.0))) [
  | inl many ↦ (let no = rw many at e in cc)
  | inr few ↦ (grind (arith, nat_tests), same_ok now other (rw few at e))
]

pub expanded_ok : (stmts : List Stmt) (nodes : List TreeNode) → expanded stmts (rows_of stmts) ≡ Ok nodes → IsExpanded stmts × (nodes_of stmts ≡ nodes)
expanded_ok stmts nodes e =
    let rows = rows_of stmts in
    let made = unless_any (name_faults stmts rows) (progress_of stmts) in
    let aimed = λ (progress : Progress). unless_any (target_faults rows progress.1) progress.0 in
    let apart = λ (forest : List TreeNode). unless_any (child_faults rows forest) forest in
    bind_ok ((made >>= sized) >>= aimed) apart nodes e (λ forest e1 e2.
    bind_ok (made >>= sized) aimed forest e1 (λ progress e3 e4.
    bind_ok made sized progress e3 (λ now e5 e6.
    let (names, same1) = unless_ok (name_faults stmts rows) (progress_of stmts) now e5 in
    let (few, same2) = sized_ok now progress e6 in
    let (targets, same3) = unless_ok (target_faults rows progress.1) progress.0 forest e4 in
    let (children, same4) = unless_ok (child_faults rows forest) forest nodes e2 in
    let all : progress_of stmts ≡ progress = same1 ∙ same2 in
    let is : nodes_of stmts ≡ forest = ap (λ (p : Progress). p.0) all ∙ same3 in (
      record {
        names = names;
        few = omega (arith, few, ap (λ (p : Progress). length p.0) same1);
        targets = ap (λ (p : Progress). target_faults rows p.1) all ∙ targets;
        children = ap (child_faults rows) is ∙ children;
      },
      is ∙ same4,
    ))))

abbrev pub forest_by : List Stmt → List TreeNode → List Branch
forest_by stmts nodes = map (branch_of (rows_of stmts)) nodes

-- the table of these nodes, where no pass found a fault
pub record IsBuiltOn (stmts : List Stmt) (nodes : List TreeNode) (table : SchemaTable) : Type 0 where
  pub checked : IsChecked stmts
  pub tree : name_faults stmts (rows_of stmts) ≡ []
  pub few : length nodes ≤ 65536
  pub children : child_faults (rows_of stmts) nodes ≡ []
  pub names : spec.name_faults stmts (forest_by stmts nodes) ≡ []
  pub types : types.other_faults stmts ≡ []
  pub lists : lists.all_faults stmts (forest_by stmts nodes) ≡ []
  pub is : table_of stmts (forest_by stmts nodes) ≡ table

pub record IsBuilt (stmts : List Stmt) (table : SchemaTable) : Type 0 where
  pub checked : IsChecked stmts
  pub expanded : IsExpanded stmts
  pub names : spec.name_faults stmts (forest_of stmts) ≡ []
  pub types : types.other_faults stmts ≡ []
  pub lists : lists.all_faults stmts (forest_of stmts) ≡ []
  pub is : table_of stmts (forest_of stmts) ≡ table

-- what no pass found of these nodes, and their table
abbrev pub IsJudged : List Stmt → List Branch → SchemaTable → Type 0
IsJudged stmts forest table =
    (spec.name_faults stmts forest ≡ []) × (types.other_faults stmts ≡ []) × (lists.all_faults stmts forest ≡ []) × (table_of stmts forest ≡ table)

first-none : {X : Type 0} (xs ys : List X) → xs ++ ys ≡ [] → xs ≡ []
first-none [] ys e = refl
first-none (x ∷ xs) ys e = cc

pub judged_on_all : (old : ℕ) (stmts : List Stmt) (forest : List Branch) (table : SchemaTable) → spec.judged_on old stmts forest ≡ Ok table → IsJudged stmts forest table
judged_on_all old stmts forest table e =
    let named = unless_any (spec.name_faults stmts forest) forest in
    let typed = λ (forest : List Branch). unless_any (spec.other_faults old stmts) forest in
    let listed = λ (forest : List Branch). unless_any (lists.all_faults stmts forest) forest in
    bind_ok ((named >>= typed) >>= listed) (λ f. Ok (table_of stmts f)) table e (λ f1 e1 e2.
    bind_ok (named >>= typed) listed f1 e1 (λ f2 e3 e4.
    bind_ok named typed f2 e3 (λ f3 e5 e6.
    let (names, same1) = unless_ok (spec.name_faults stmts forest) forest f3 e5 in
    let (others, same2) = unless_ok (spec.other_faults old stmts) f3 f2 e6 in
    let (keys, same3) = unless_ok (lists.all_faults stmts f2) f2 f1 e4 in
    let two : forest ≡ f2 = same1 ∙ same2 in
    let typeless = first-none (types.other_faults stmts) (old_bases.all_faults old stmts) others in
    (names, typeless, ap (lists.all_faults stmts) two ∙ keys, ap (table_of stmts) (two ∙ same3) ∙ same_ok _ _ e2))))

pub judged_all : (stmts : List Stmt) (forest : List Branch) (table : SchemaTable) → spec.judged stmts forest ≡ Ok table → IsJudged stmts forest table
judged_all stmts forest table e =
    let named = unless_any (spec.name_faults stmts forest) forest in
    let typed = λ (forest : List Branch). unless_any (types.other_faults stmts) forest in
    let listed = λ (forest : List Branch). unless_any (lists.all_faults stmts forest) forest in
    bind_ok ((named >>= typed) >>= listed) (λ f. Ok (table_of stmts f)) table e (λ f1 e1 e2.
    bind_ok (named >>= typed) listed f1 e1 (λ f2 e3 e4.
    bind_ok named typed f2 e3 (λ f3 e5 e6.
    let (names, same1) = unless_ok (spec.name_faults stmts forest) forest f3 e5 in
    let (others, same2) = unless_ok (types.other_faults stmts) f3 f2 e6 in
    let (keys, same3) = unless_ok (lists.all_faults stmts f2) f2 f1 e4 in
    let two : forest ≡ f2 = same1 ∙ same2 in
    (names, others, ap (lists.all_faults stmts) two ∙ keys, ap (table_of stmts) (two ∙ same3) ∙ same_ok _ _ e2))))

pub built_ok : (stmts : List Stmt) (table : SchemaTable) → build stmts ≡ Ok table → IsBuilt stmts table
built_ok stmts table e =
    bind_ok (check stmts) (λ modules. expand modules >>= spec.judged modules) table e (λ modules e1 e2.
    bind_ok (expand modules) (spec.judged modules) table e2 (λ forest e3 e4.
    let (good, same) = checked stmts modules e1 in
    let e5 : expand stmts ≡ Ok forest = ap expand same ∙ e3 in
    bind_ok (expanded stmts (rows_of stmts)) (λ nodes. Ok (map (branch_of (rows_of stmts)) nodes)) forest e5 (λ nodes e6 e7.
    let (grown, same1) = expanded_ok stmts nodes e6 in
    let is : forest_of stmts ≡ forest = ap (map (branch_of (rows_of stmts))) same1 ∙ same_ok _ _ e7 in
    let found = judged_all stmts (forest_of stmts) table (ap (λ (m : List Stmt). spec.judged m (forest_of stmts)) same ∙ ap (spec.judged modules) is ∙ e4) in
    record { checked = good; expanded = grown; names = found.0; types = found.1; lists = found.2; is = found.3 })))

pub built_on : (stmts : List Stmt) (table : SchemaTable) → build stmts ≡ Ok table → IsBuiltOn stmts (nodes_of stmts) table
built_on stmts table e =
    let it = built_ok stmts table e in
    record { checked = it.checked; tree = it.expanded.names; few = it.expanded.few; children = it.expanded.children; names = it.names; types = it.types; lists = it.lists; is = it.is }
