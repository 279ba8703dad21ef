-- The profile finds no fault in the load's module, and its imports none.
use Prim.Native.String.{String}
use Rattle.std.proofs.Common.{◌≡◌, ◌+◌, ℕ, suc, Bool, true, false, List, [], ◌∷◌, Ok, if◌then◌else◌, refl}
use Rattle.std.specs.Prelude.{⊤}
use Rattle.std.specs.List.{flat_map}
use Rattle.sal_stmt.specs.Words.{is_keyword}
use Rattle.sal_stmt.specs.declared.stmt.Stmt.{Stmt}
use Rattle.sal_stmt.specs.declared.stmt.Stmt.TheViews.{out-roll-Stmt}
use Rattle.sal_module.specs.declared.fault.Found.{Found}
use Rattle.sal_module.specs.Keywords.{words, keyword_of, word_of}
use Rattle.sal_module.specs.Table.{rows, rule_at, rule_of}
use Rattle.sal_module.specs.Statements.{all_named, subs_of, is_named, argument_of, value_of}
use Rattle.sal_module.specs.LeftOut.{calls_deref_after, bit_faults}
use Rattle.sal_module.specs.Profile.{is_judged, level_faults, tree_faults, module_faults, profile_faults}
use Rattle.sal_module.specs.Imports.{reaches, graph_faults}
use Rattle.sal_module.specs.Modules.{check}
use Rattle.sal_versions.proofs.LoadText.{stmt, leaf_at, cell_list, module_stmt, its_stmts}

-- ---- one statement each

key_level : level_faults 0 (stmt "key" "k" 58 []) ≡ []
unfolding words keyword_of word_of rows rule_at rule_of calls_deref_after bit_faults level_faults is_keyword
key_level = simp (out-roll-Stmt, all_named, subs_of, is_named, argument_of)

prefix_level : level_faults 0 (stmt "prefix" "l" 36 []) ≡ []
unfolding words keyword_of word_of rows rule_at rule_of calls_deref_after bit_faults level_faults is_keyword
prefix_level = simp (out-roll-Stmt, all_named, subs_of, is_named, argument_of)

namespace_level : level_faults 0 (stmt "namespace" "urn:load" 14 []) ≡ []
unfolding words keyword_of word_of rows rule_at rule_of calls_deref_after bit_faults level_faults is_keyword
namespace_level = simp (out-roll-Stmt, all_named, subs_of, is_named, argument_of)

type_level : (n : ℕ) → level_faults 0 (stmt "type" "uint32" n []) ≡ []
unfolding words keyword_of word_of rows rule_at rule_of calls_deref_after bit_faults level_faults is_keyword
type_level n = simp (out-roll-Stmt, all_named, subs_of, is_named, argument_of)

leaf_k_level : level_faults 0 (leaf_at "k" 65) ≡ []
unfolding words keyword_of word_of rows rule_at rule_of calls_deref_after bit_faults level_faults is_keyword
leaf_k_level = simp (out-roll-Stmt, all_named, subs_of, is_named)

leaf_v_level : level_faults 0 (leaf_at "v" 89) ≡ []
unfolding words keyword_of word_of rows rule_at rule_of calls_deref_after bit_faults level_faults is_keyword
leaf_v_level = simp (out-roll-Stmt, all_named, subs_of, is_named)

list_level : level_faults 0 cell_list ≡ []
unfolding words keyword_of word_of rows rule_at rule_of calls_deref_after bit_faults level_faults is_keyword
list_level = simp (out-roll-Stmt, all_named, subs_of, is_named)

module_level : level_faults 0 module_stmt ≡ []
unfolding words keyword_of word_of rows rule_at rule_of calls_deref_after bit_faults level_faults is_keyword
module_level = simp (out-roll-Stmt, all_named, subs_of, is_named)

-- ---- and the statements below

unless : (b : Bool) (found : List Found) → found ≡ [] → (if b then found else []) ≡ []
unless true found none = none
unless false found none = refl

abbrev Quiet : ℕ → List Stmt → Type 0
Quiet n [] = ⊤
Quiet n (s ∷ ss) = (tree_faults 0 n s ≡ []) × Quiet n ss

below : (s : Stmt) (n : ℕ) (subs : List Stmt) → Quiet n subs → flat_map (λ sub. if is_judged s sub then tree_faults 0 n sub else []) subs ≡ []
below s n [] quiet = refl
below s n (sub ∷ subs) quiet = rw (unless (is_judged s sub) (tree_faults 0 n sub) quiet.0, below s n subs quiet.1) refl

tree : (n : ℕ) (s : Stmt) (subs : List Stmt) → subs_of s ≡ subs → level_faults 0 s ≡ [] → Quiet n subs → tree_faults 0 (suc n) s ≡ []
unfolding tree_faults
tree n s subs has here quiet = rw (here, has, below s n subs quiet) refl

plain : (n : ℕ) (keyword arg : String) (at : ℕ) → level_faults 0 (stmt keyword arg at []) ≡ [] → tree_faults 0 (suc n) (stmt keyword arg at []) ≡ []
plain n keyword arg at here = tree n (stmt keyword arg at []) [] (simp (out-roll-Stmt, subs_of)) here tt

leaf : (n : ℕ) (name : String) (at : ℕ) → level_faults 0 (leaf_at name at) ≡ [] → tree_faults 0 (suc (suc n)) (leaf_at name at) ≡ []
leaf n name at here = tree (suc n) (leaf_at name at) (stmt "type" "uint32" (at + 9) [] ∷ []) (simp (out-roll-Stmt, subs_of)) here (plain n "type" "uint32" (at + 9) (type_level (at + 9)), tt)

list : tree_faults 0 63 cell_list ≡ []
list = tree 62 cell_list (stmt "key" "k" 58 [] ∷ leaf_at "k" 65 ∷ leaf_at "v" 89 ∷ []) (simp (out-roll-Stmt, subs_of)) list_level (plain 61 "key" "k" 58 key_level, (leaf 60 "k" 65 leaf_k_level, (leaf 60 "v" 89 leaf_v_level, tt)))

whole : tree_faults 0 64 module_stmt ≡ []
whole = tree 63 module_stmt (stmt "namespace" "urn:load" 14 [] ∷ stmt "prefix" "l" 36 [] ∷ cell_list ∷ []) (simp (out-roll-Stmt, subs_of)) module_level (plain 62 "namespace" "urn:load" 14 namespace_level, (plain 62 "prefix" "l" 36 prefix_level, (list, tt)))

profile : profile_faults its_stmts ≡ []
unfolding module_faults words word_of
profile = simp (out-roll-Stmt, is_named, whole)

graph : graph_faults its_stmts ≡ []
unfolding words word_of reaches
graph = simp (out-roll-Stmt, all_named, subs_of, is_named, argument_of, value_of)

pub checked : check its_stmts ≡ Ok its_stmts
checked = rw (profile, graph) refl
