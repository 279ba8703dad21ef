-- Properties of each node of the table of modules.
use Rattle.std.proofs.Common.{◌≡◌, ℕ, ◌+◌, Bool, IsTrue, List, [], ◌∷◌, ◌++◌, length, refl, sym, ◌∙◌, inl, inr, arith, append_assoc, length-append}
use Rattle.std.proofs.lemmas.Bool.{cases_Bool}
use Rattle.std.specs.List.{list_all}
use Rattle.sal_stmt.specs.declared.stmt.Stmt.{Stmt}
use Rattle.sal_grouping.specs.declared.forest.Branch.{Branch}
use Rattle.sal_schema.specs.declared.table.NodeInfo.{NodeInfo}
use Rattle.sal_schema.specs.Kinds.{has_type}
use Rattle.sal_schema.specs.Table.{all_from}
use Rattle.sal_schema.specs.Valid.{has_its_type}
use Rattle.sal_module_table.specs.Nodes.{kind_of}
use Rattle.sal_module_table.specs.Table.{info_of, infos_from}
use Rattle.sal_build.proofs.Quiet.{both}

module _ (stmts : List Stmt) (forest : List Branch) where
  pub infos-all : (test : NodeInfo → Bool) → ((k : ℕ) (b : Branch) → IsTrue (test (info_of stmts forest k b))) → (k : ℕ) (rest : List Branch)
      → IsTrue (list_all test (infos_from stmts forest k rest))
  infos-all test each k [] = refl
  infos-all test each k (b ∷ rest) = both (test (info_of stmts forest k b)) (list_all test (infos_from stmts forest (k + 1) rest)) (each k b) (infos-all test each (k + 1) rest)

  -- each with its number, and its position in the forest
  pub infos-numbered : (test : ℕ → NodeInfo → Bool)
      → ((done rest : List Branch) (k : ℕ) (b : Branch) → k ≡ length done → forest ≡ done ++ b ∷ rest → IsTrue (test k (info_of stmts forest k b)))
      → (done rest : List Branch) (k : ℕ) → k ≡ length done → forest ≡ done ++ rest → IsTrue (all_from test k (infos_from stmts forest k rest))
  infos-numbered test each done [] k count is = refl
  infos-numbered test each done (b ∷ rest) k count is =
      both (test k (info_of stmts forest k b)) (all_from test (k + 1) (infos_from stmts forest (k + 1) rest)) (each done rest k b count is)
      (infos-numbered test each (done ++ b ∷ []) rest (k + 1) (omega (arith, length-append done (b ∷ []))) (is ∙ sym (append_assoc done (b ∷ []) rest)))

  pub node-typed : (k : ℕ) (b : Branch) → IsTrue (has_its_type (info_of stmts forest k b))
  node-typed k b = elim (cases_Bool (has_type (kind_of stmts b))) [ inl e ↦ rw e refl | inr e ↦ rw e refl ]
