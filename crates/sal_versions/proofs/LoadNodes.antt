-- The nodes of the load's module, and their faults.
use Rattle.std.proofs.Common.{◌≡◌, List, [], ◌∷◌, None, Some, codes, refl}
use Rattle.sal_stmt.specs.declared.stmt.Stmt.TheViews.{out-roll-Stmt}
use Rattle.sal_module.specs.Keywords.{words, keyword_of, word_of}
use Rattle.sal_module.specs.Statements.{subs_of, is_named, argument_of, all_named, value_of}
use Rattle.sal_module.specs.Profile.{at_stmt}
use Rattle.sal_schema.specs.Examples.{leaf, list}
use Rattle.sal_schema.specs.declared.kind.Kind.TheVariants as kind
use Rattle.sal_typedefs.specs.Names.{steps_of, name_of as leafref_name}
use Rattle.sal_module_table.specs.Nodes.{stmt_of, own_stmt, has, keyword_in, kind_in, kind_of, argument_in, name_of, stated, own_config}
use Rattle.sal_module_table.specs.Inherited.{inherited}
use Rattle.sal_module_table.specs.Lists.{block_of, sub_faults, config_fault, node_faults}
use Rattle.sal_module_table.specs.Identities.{identities_of, identity_here, identities_in}
use Rattle.sal_module_table.specs.Leafrefs.{type_in, type_of, references_at}
use Rattle.sal_module_table.specs.Table.{info_of}
use Rattle.sal_versions.proofs.LoadText.{leaf_at, its_stmts}
use Rattle.sal_versions.proofs.LoadForest.{branch, its_forest}
use Rattle.sal_versions.proofs.LoadTypes.{just}
use Rattle.sal_versions.proofs.LoadSites.{at_list, at_k, at_v, way_to_k, way_to_v, site_k, site_v, in_list}

pub kind_list : kind_of its_stmts (branch None 46) ≡ kind.List
unfolding words keyword_of word_of
kind_list = simp (at_list, stmt_of, has, keyword_in, kind_in, subs_of, is_named, out-roll-Stmt)

pub kind_k : kind_of its_stmts (branch (Some 0) 65) ≡ kind.Leaf
unfolding words keyword_of word_of
kind_k = simp (at_k, stmt_of, has, keyword_in, kind_in, subs_of, is_named, out-roll-Stmt)

pub kind_v : kind_of its_stmts (branch (Some 0) 89) ≡ kind.Leaf
unfolding words keyword_of word_of
kind_v = simp (at_v, stmt_of, has, keyword_in, kind_in, subs_of, is_named, out-roll-Stmt)

pub type_k : type_of its_stmts (branch (Some 0) 65) ≡ Some site_k
unfolding words keyword_of word_of
type_k = simp (at_k, way_to_k, stmt_of, has, keyword_in, kind_in, type_in, subs_of, is_named, out-roll-Stmt)

pub type_v : type_of its_stmts (branch (Some 0) 89) ≡ Some site_v
unfolding words keyword_of word_of
type_v = simp (at_v, way_to_v, stmt_of, has, keyword_in, kind_in, type_in, subs_of, is_named, out-roll-Stmt)

pub info_k : info_of its_stmts its_forest 1 (branch (Some 0) 65) ≡ leaf (Some 0) 0 (codes "k") 0
unfolding words keyword_of word_of inherited
info_k = simp (at_list, at_k, subs_of, argument_of, is_named, all_named, value_of, at_stmt, stmt_of, own_stmt, has, keyword_in, kind_in, kind_of, argument_in, name_of, stated, own_config, block_of, out-roll-Stmt)

pub info_v : info_of its_stmts its_forest 2 (branch (Some 0) 89) ≡ leaf (Some 0) 0 (codes "v") 1
unfolding words keyword_of word_of inherited
info_v = simp (at_list, at_k, at_v, subs_of, argument_of, is_named, all_named, value_of, at_stmt, stmt_of, own_stmt, has, keyword_in, kind_in, kind_of, argument_in, name_of, stated, own_config, block_of, out-roll-Stmt)

pub info_list : info_of its_stmts its_forest 0 (branch None 46) ≡ list None 0 (codes "cell") (1 ∷ [])
unfolding words keyword_of word_of inherited
info_list = simp (at_list, at_k, at_v, subs_of, argument_of, is_named, all_named, value_of, at_stmt, stmt_of, own_stmt, has, keyword_in, kind_in, kind_of, argument_in, name_of, stated, own_config, block_of, out-roll-Stmt)

pub no_faults_list : node_faults its_stmts its_forest 0 (branch None 46) ≡ []
unfolding words keyword_of word_of inherited
no_faults_list = simp (at_list, at_k, at_v, subs_of, argument_of, is_named, all_named, value_of, at_stmt, stmt_of, own_stmt, has, keyword_in, kind_in, kind_of, argument_in, name_of, stated, own_config, block_of, sub_faults, config_fault, out-roll-Stmt)

pub no_faults_k : node_faults its_stmts its_forest 1 (branch (Some 0) 65) ≡ []
unfolding words keyword_of word_of inherited
no_faults_k = simp (at_list, at_k, subs_of, argument_of, is_named, all_named, value_of, at_stmt, stmt_of, own_stmt, has, keyword_in, kind_in, kind_of, argument_in, name_of, stated, own_config, block_of, sub_faults, config_fault, out-roll-Stmt)

pub no_faults_v : node_faults its_stmts its_forest 2 (branch (Some 0) 89) ≡ []
unfolding words keyword_of word_of inherited
no_faults_v = simp (at_list, at_v, subs_of, argument_of, is_named, all_named, value_of, at_stmt, stmt_of, own_stmt, has, keyword_in, kind_in, kind_of, argument_in, name_of, stated, own_config, block_of, sub_faults, config_fault, out-roll-Stmt)

pub no_references_list : references_at its_stmts (branch None 46) ≡ []
no_references_list = rw kind_list refl

pub no_references_k : references_at its_stmts (branch (Some 0) 65) ≡ []
no_references_k = rw (type_k, just (steps_of its_stmts) its_stmts 74 (leaf_at "k" 65 ∷ in_list)) (simp (leafref_name, out-roll-Stmt))

pub no_references_v : references_at its_stmts (branch (Some 0) 89) ≡ []
no_references_v = rw (type_v, just (steps_of its_stmts) its_stmts 98 (leaf_at "v" 89 ∷ in_list)) (simp (leafref_name, out-roll-Stmt))

pub no_identities : identities_of its_stmts ≡ []
unfolding words word_of
no_identities = simp (identity_here, identities_in, subs_of, is_named, out-roll-Stmt)
