-- The table of the load's module.
use Rattle.std.proofs.Common.{◌≡◌, ◌∙◌, ap, ℕ, List, [], ◌∷◌, Ok, codes, refl}
use Rattle.sal_stmt.specs.declared.stmt.Stmt.{Stmt}
use Rattle.sal_stmt.specs.declared.stmt.Stmt.TheViews.{out-roll-Stmt}
use Rattle.sal_restrict.specs.declared.yang_type.YangType.{YangType}
use Rattle.sal_restrict.specs.declared.yang_type.YangType.TheViews.{out-roll-YangType}
use Rattle.sal_module.specs.Statements.{argument_of}
use Rattle.sal_schema.specs.Examples.{whole}
use Rattle.sal_module.specs.declared.fault.Found.{Found}
use Rattle.std.specs.List.{flat_map}
use Rattle.sal_typedefs.specs.Scopes.{Site}
use Rattle.sal_typedefs.specs.Names.{steps_of}
use Rattle.sal_typedefs.specs.Types.{Judged, judgement}
use Rattle.sal_module_table.specs.Build.{name_faults, table_of, judged, build}
use Rattle.sal_module_table.specs.Filled.{empty, node_type, type_of_node}
use Rattle.sal_module_table.specs.Identities as identities
use Rattle.sal_module_table.specs.Leafrefs as leafrefs
use Rattle.sal_module_table.specs.Lists as lists
use Rattle.sal_module_table.specs.Table.{infos_of}
use Rattle.sal_module_table.specs.Types as types
use Rattle.sal_script.specs.LoadExamples.{table}
use Rattle.sal_versions.proofs.LoadText.{leaf_at, module_stmt, its_stmts}
use Rattle.sal_versions.proofs.LoadForest.{its_forest, expanded}
use Rattle.sal_versions.proofs.LoadProfile.{checked}
use Rattle.sal_versions.proofs.LoadTypes.{site, no_name_faults, judges}
use Rattle.sal_versions.proofs.LoadSites.{its_types, site_k, site_v, in_list}
use Rattle.sal_versions.proofs.LoadNodes.{kind_list, kind_k, kind_v, type_k, type_v, info_list, info_k, info_v, no_faults_list, no_faults_k, no_faults_v, no_references_list, no_references_k, no_references_v, no_identities}

abbrev steps : ℕ
steps = steps_of its_stmts

names_of_types : types.name_faults its_stmts ≡ []
names_of_types = rw (its_types, no_name_faults steps its_stmts 74 (leaf_at "k" 65 ∷ in_list), no_name_faults steps its_stmts 98 (leaf_at "v" 89 ∷ in_list)) refl

names_of_identities : identities.all_faults its_stmts ≡ []
names_of_identities = rw no_identities refl

names_of_leafrefs : leafrefs.all_faults its_stmts its_forest ≡ []
names_of_leafrefs = rw (no_references_list, no_references_k, no_references_v) refl

pub names : name_faults its_stmts its_forest ≡ []
names = rw (names_of_types, names_of_identities, names_of_leafrefs) refl

both : (f : Site → List Found) (a b : Site) → f a ≡ [] → f b ≡ [] → flat_map f (a ∷ b ∷ []) ≡ []
both f a b first second = rw (first, second) refl

-- the faults of restrictions and patterns
abbrev faults_of : Site → List Found
faults_of s = (judgement its_stmts s).faults

no_faults : (at : ℕ) (around : List Stmt) → faults_of (site at around) ≡ []
no_faults at around = ap (λ (j : Judged). j.faults) (judges steps its_stmts at around)

pub others : types.other_faults its_stmts ≡ []
others = rw its_types (both faults_of site_k site_v (no_faults 74 (leaf_at "k" 65 ∷ in_list)) (no_faults 98 (leaf_at "v" 89 ∷ in_list)))

pub lists_right : lists.all_faults its_stmts its_forest ≡ []
lists_right = rw (no_faults_list, no_faults_k, no_faults_v) refl

infos : infos_of its_stmts its_forest ≡ table.nodes
infos = rw (info_list, info_k, info_v) refl

abbrev uint : YangType
uint = whole 32 0 4294967295

own : leafrefs.own_types its_stmts its_forest ≡ empty ∷ uint ∷ uint ∷ []
own = rw (kind_list, type_k, type_v, judges steps its_stmts 74 (leaf_at "k" 65 ∷ in_list), judges steps its_stmts 98 (leaf_at "v" 89 ∷ in_list)) refl

edges : leafrefs.edges_of its_stmts its_forest ≡ [] ∷ [] ∷ [] ∷ []
edges = rw (no_references_list, no_references_k, no_references_v) refl

-- the type of each leaf, which is no leafref
filled_k : type_of_node (empty ∷ uint ∷ uint ∷ []) ([] ∷ [] ∷ [] ∷ []) 1 ≡ uint
unfolding node_type
filled_k = simp out-roll-YangType

filled_v : type_of_node (empty ∷ uint ∷ uint ∷ []) ([] ∷ [] ∷ [] ∷ []) 2 ≡ uint
unfolding node_type
filled_v = simp out-roll-YangType

node_at : (k : ℕ) → leafrefs.node_type its_stmts its_forest k ≡ type_of_node (empty ∷ uint ∷ uint ∷ []) ([] ∷ [] ∷ [] ∷ []) k
node_at k =
    ap (λ (types : List YangType). type_of_node types (leafrefs.edges_of its_stmts its_forest) k) own
    ∙ ap (λ (lists : List (List ℕ)). type_of_node (empty ∷ uint ∷ uint ∷ []) lists k) edges

node_k : leafrefs.node_type its_stmts its_forest 1 ≡ uint
node_k = node_at 1 ∙ filled_k

node_v : leafrefs.node_type its_stmts its_forest 2 ≡ uint
node_v = node_at 2 ∙ filled_v

types_right : leafrefs.types_of its_stmts its_forest ≡ uint ∷ uint ∷ []
types_right = rw (node_k, node_v, kind_list, kind_k, kind_v) refl

modules : argument_of module_stmt ≡ codes "load"
modules = simp (argument_of, out-roll-Stmt)

tables : table_of its_stmts its_forest ≡ table
tables = rw (infos, types_right, modules, no_identities) refl

pub its_table : judged its_stmts its_forest ≡ Ok table
its_table = rw (names, others, lists_right, tables) refl

pub its_build : build its_stmts ≡ Ok table
its_build = rw (checked, expanded, its_table) refl
