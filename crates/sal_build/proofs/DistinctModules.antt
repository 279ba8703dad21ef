-- No two modules have one name.
use Rattle.sal_grouping.proofs.Parts.{TreeNode}
use Rattle.sal_build.proofs.Grown.{AreGrown, built-grown}
use Rattle.std.proofs.Common.{◌≡◌, ℕ, ◌+◌, true, false, not, IsTrue, List, [], ◌∷◌, ◌++◌, map, take, None, refl, sym, ap, ◌∙◌, subst, inl, inr}
use Rattle.std.specs.List.{list_any, flat_map, enumerate_from}
use Rattle.std.proofs.lemmas.Bool.{cases_Bool}
use Rattle.sal_stmt.specs.declared.stmt.Stmt.{Stmt}
use Rattle.sal_module.specs.Imports.{has_name, name_faults, prefix_faults, given_faults, import_faults, imports_of, prefix_of}
use Rattle.sal_module.specs.Keywords.{same}
use Rattle.sal_module.specs.Statements.{argument_of}
use Rattle.sal_schema.specs.declared.table.SchemaTable.{SchemaTable}
use Rattle.sal_schema.specs.Names.{is_called, are_distinct, named, name_of_parts, module_at, module_names}
use Rattle.sal_schema.specs.Table.{each_from, all_from}
use Rattle.sal_build.specs.Laws.{ModuleNamesDiffer}
use Rattle.sal_build.proofs.Built.{IsBuiltOn, built_on, nodes_of}
use Rattle.sal_build.proofs.Distinct.{called-same, same-itself, false-is, true-is, pairs, are_apart, distinct-pairs}
use Rattle.sal_build.proofs.Quiet.{both, front-nil}

module _ (stmts : List Stmt) where
  -- no module before it has its name
  new-name : (m : ℕ) (stmt : Stmt) → import_faults stmts m stmt ≡ [] → IsTrue (not (list_any (has_name (argument_of stmt)) (take m stmts)))
  new-name m stmt e =
      let (three, cycle) = front-nil (name_faults stmts m stmt ++ prefix_faults m (prefix_of stmt ∷ []) (imports_of stmt) ++ flat_map (given_faults stmts m) (imports_of stmt)) _ e in
      let (two, given) = front-nil (name_faults stmts m stmt ++ prefix_faults m (prefix_of stmt ∷ []) (imports_of stmt)) _ three in
      let (names, prefixes) = front-nil (name_faults stmts m stmt) _ two in
      elim (cases_Bool (list_any (has_name (argument_of stmt)) (take m stmts))) [
        | inl t ↦ let no = rw t at names in cc
        | inr f ↦ false-is (list_any (has_name (argument_of stmt)) (take m stmts)) f
      ]

  new-names : (k : ℕ) (rest : List Stmt) → flat_map (λ (e : ℕ × Stmt). import_faults stmts e.0 e.1) (enumerate_from k rest) ≡ []
      → IsTrue (all_from (λ j (y : Stmt). not (list_any (has_name (argument_of y)) (take j stmts))) k rest)
  new-names k [] e = refl
  new-names k (stmt ∷ rest) e =
      let (here, later) = front-nil (import_faults stmts k stmt) (flat_map (λ (e : ℕ × Stmt). import_faults stmts e.0 e.1) (enumerate_from (k + 1) rest)) e in
      both (not (list_any (has_name (argument_of stmt)) (take k stmts))) _ (new-name k stmt here) (new-names (k + 1) rest later)

apart : (i : ℕ) (x : Stmt) (j : ℕ) (y : Stmt) → IsTrue (not (has_name (argument_of y) x)) → IsTrue (are_apart (module_at i (argument_of x)) (module_at j (argument_of y)))
apart i x j y h = elim (cases_Bool (is_called (name_of_parts None 0 (argument_of x)) (named None 0 (argument_of y) j))) [
  | inl t ↦
      (let (p, rest) = called-same None None 0 0 j (argument_of x) (argument_of y) t in
      let is : argument_of y ≡ argument_of x = rest.1 in
      let yes : same (argument_of x) (argument_of y) ≡ true = ap (same (argument_of x)) is ∙ same-itself (argument_of x) in
      let no = true-is (same (argument_of x) (argument_of y)) h in absurd (wrong (sym yes ∙ no)))
  | inr f ↦ rw f refl
]
  where
    wrong : true ≡ false → ⊥
    wrong e = cc

each-map : {X Y Z : Type 0} (f : ℕ → Y → List Z) (g : X → Y) (i : ℕ) (xs : List X) → each_from (λ i x. f i (g x)) i xs ≡ each_from f i (map g xs)
each-map f g i [] = refl
each-map f g i (x ∷ xs) = ap (λ rest. f i (g x) ++ rest) (each-map f g (i + 1) xs)

pub module-names-differ-on : (stmts : List Stmt) (nodes : List TreeNode) (table : SchemaTable) → IsBuiltOn stmts nodes table → AreGrown stmts nodes
    → IsTrue (are_distinct (module_names table))
module-names-differ-on stmts nodes table built grown =
    let new = new-names stmts 0 stmts built.checked.graph in
    let apart-all = pairs (λ (y x : Stmt). has_name (argument_of y) x) stmts [] stmts 0 refl refl new in
    let names = distinct-pairs (λ i (x : Stmt). module_at i (argument_of x)) (λ i (x : Stmt) j (y : Stmt). not (has_name (argument_of y) x)) (λ i x. refl) apart 0 stmts apart-all in
    subst (λ (t : SchemaTable). IsTrue (are_distinct (module_names t))) built.is (subst (λ names. IsTrue (are_distinct names)) (each-map module_at argument_of 0 stmts) names)

pub module_names_differ : ModuleNamesDiffer
module_names_differ stmts table e = module-names-differ-on stmts (nodes_of stmts) table (built_on stmts table e) (built-grown stmts)
