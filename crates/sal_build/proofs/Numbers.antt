-- The numbers of parents, modules and types in a table that modules have are those of a node before, a module and a type.
use Rattle.std.proofs.Common.{◌≡◌, ℕ, zero, suc, ◌+◌, ◌^◌, ◌<◌, ◌≤◌, Bool, true, ◌&&◌, nat_lt, IsTrue, List, [], ◌∷◌, ◌++◌, map, filter, take, length, Option, refl, ap, ◌∙◌, subst, inl, inr, arith}
use Rattle.std.specs.Prelude.{if◌then◌else◌}
use Rattle.std.specs.List.{flat_map, enumerate_from}
use Rattle.std.specs.Option.{option_map_or}
use Rattle.std.proofs.lemmas.Bool.{cases_Bool}
use Rattle.std.proofs.lemmas.Bool.Decides.{nat_tests}
use Rattle.std.proofs.lemmas.List.{length-map}
use Rattle.sal_stmt.specs.declared.stmt.Stmt.{Stmt}
use Rattle.sal_module.specs.Statements.{argument_of}
use Rattle.sal_grouping.proofs.Parts.{TreeNode, TreeRow}
use Rattle.sal_grouping.specs.declared.forest.Branch.{Branch}
use Rattle.sal_grouping.specs.Expand.{branch_of}
use Rattle.sal_grouping.specs.Growth.{Seed, node_of}
use Rattle.sal_grouping.specs.Rows.{rows_of}
use Rattle.sal_schema.specs.declared.table.SchemaTable.{SchemaTable}
use Rattle.sal_schema.specs.Kinds.{has_type}
use Rattle.sal_schema.specs.Table.{all_from}
use Rattle.sal_schema.specs.Valid.{has_numbers}
use Rattle.sal_schema.proofs.Conjuncts.{and_first, and_second}
use Rattle.sal_module_table.specs.Build.{table_of}
use Rattle.sal_build.specs.Laws.{NumbersAreThere, TablesAreSmall}
use Rattle.sal_module_table.specs.Leafrefs.{node_type}
use Rattle.sal_module_table.specs.Nodes.{kind_of}
use Rattle.sal_module_table.specs.Table.{is_typed, types_before, info_of, infos_from}
use Rattle.sal_build.proofs.Built.{IsBuiltOn, built_on, forest_by, nodes_of}
use Rattle.sal_build.proofs.Grown.{AreGrown, built-grown}
use Rattle.sal_build.proofs.InfoLists.{infos-numbered}
use Rattle.sal_build.proofs.Quiet.{both}
use Rattle.sal_build.proofs.Shapes.{is_before}

-- ---- counts

pub infos-length : (stmts : List Stmt) (forest : List Branch) (k : ℕ) (rest : List Branch) → length (infos_from stmts forest k rest) ≡ length rest
infos-length stmts forest k [] = refl
infos-length stmts forest k (b ∷ rest) = ap (λ n. suc n) (infos-length stmts forest (k + 1) rest)

-- each node that has a type gives one
pub types-count : (stmts : List Stmt) (forest : List Branch) (k : ℕ) (rest : List Branch)
    → length (flat_map (λ (entry : ℕ × Branch). if has_type (kind_of stmts entry.1) then node_type stmts forest entry.0 ∷ [] else []) (enumerate_from k rest)) ≡ length (filter (is_typed stmts) rest)
types-count stmts forest k [] = refl
types-count stmts forest k (b ∷ rest) = elim (cases_Bool (has_type (kind_of stmts b))) [
  | inl e ↦ rw e (ap (λ n. suc n) (types-count stmts forest (k + 1) rest))
  | inr e ↦ rw e (types-count stmts forest (k + 1) rest)
]

filter-few : {X : Type 0} (p : X → Bool) (xs : List X) → length (filter p xs) ≤ length xs
filter-few p [] = omega arith
filter-few p (x ∷ xs) = elim (cases_Bool (p x)) [ inl e ↦ rw e (omega (arith, filter-few p xs)) | inr e ↦ rw e (omega (arith, filter-few p xs)) ]

filter-front : {X : Type 0} (p : X → Bool) (xs : List X) (x : X) (ys : List X) → p x ≡ true → length (filter p xs) < length (filter p (xs ++ x ∷ ys))
filter-front p [] x ys e = rw e (omega arith)
filter-front p (y ∷ xs) x ys e = elim (cases_Bool (p y)) [ inl t ↦ rw t (omega (arith, filter-front p xs x ys e)) | inr f ↦ rw f (filter-front p xs x ys e) ]

pub take-front : {X : Type 0} (xs ys : List X) (k : ℕ) → k ≡ length xs → take k (xs ++ ys) ≡ xs
take-front [] ys k e = let none : k ≡ 0 = omega arith in rw none refl
take-front (x ∷ xs) ys zero e = absurd (omega arith)
take-front (x ∷ xs) ys (suc k) e = let less : k ≡ length xs = omega arith in ap (λ zs. x ∷ zs) (take-front xs ys k less)

pub tables-are-small-on : (stmts : List Stmt) (nodes : List TreeNode) (table : SchemaTable) → IsBuiltOn stmts nodes table → AreGrown stmts nodes
    → (length table.nodes < 2 ^ 32) × (length table.types < 2 ^ 32) × (length table.modules < 2 ^ 32)
tables-are-small-on stmts all table built grown =
    let forest = forest_by stmts all in
    let Small : SchemaTable → Type 0 = λ t. (length t.nodes < 2 ^ 32) × (length t.types < 2 ^ 32) × (length t.modules < 2 ^ 32) in
    let nodes = infos-length stmts forest 0 forest in
    let types = types-count stmts forest 0 forest in
    let few = filter-few (is_typed stmts) forest in
    let count = length-map all (branch_of (rows_of stmts)) in
    let modules = length-map stmts argument_of in
    let limit = built.few in
    let limit2 = built.checked.few in
    subst Small built.is (omega arith, omega arith, omega arith)

pub tables_are_small : TablesAreSmall
tables_are_small stmts table e = tables-are-small-on stmts (nodes_of stmts) table (built_on stmts table e) (built-grown stmts)

-- ---- numbers

-- the parent is before it, and its module exists
abbrev pub is_placed : ℕ → ℕ → TreeNode → Bool
is_placed count k node = is_before k node.parent && nat_lt node.module count

placed : (count : ℕ) (owner k : ℕ) (parent : Option ℕ) (seed : Seed) → owner < count → IsTrue (is_before k parent) → IsTrue (is_placed count k (node_of owner parent seed))
placed count owner k parent seed h before = both (is_before k parent) (nat_lt owner count) before (grind (arith, nat_tests))

nodes-placed : (stmts : List Stmt) (nodes : List TreeNode) → AreGrown stmts nodes → IsTrue (all_from (is_placed (length stmts)) 0 nodes)
nodes-placed stmts nodes grown = grown (is_placed (length stmts)) (λ owner k parent seed h before fit. placed (length stmts) owner k parent seed h before)

-- and of the branches
abbrev pub is_placed_branch : ℕ → ℕ → Branch → Bool
is_placed_branch count k b = is_before k b.parent && nat_lt b.module count

branches-placed : (count : ℕ) (rows : List TreeRow) (k : ℕ) (nodes : List TreeNode) → IsTrue (all_from (is_placed count) k nodes) → IsTrue (all_from (is_placed_branch count) k (map (branch_of rows) nodes))
branches-placed count rows k [] h = refl
branches-placed count rows k (node ∷ nodes) h =
    both (is_placed count k node) (all_from (is_placed_branch count) (k + 1) (map (branch_of rows) nodes)) (and_first (is_placed count k node) (all_from (is_placed count) (k + 1) nodes) h)
    (branches-placed count rows (k + 1) nodes (and_second (is_placed count k node) (all_from (is_placed count) (k + 1) nodes) h))

pub forest-placed : (stmts : List Stmt) (nodes : List TreeNode) → AreGrown stmts nodes → IsTrue (all_from (is_placed_branch (length stmts)) 0 (forest_by stmts nodes))
forest-placed stmts nodes grown = branches-placed (length stmts) (rows_of stmts) 0 nodes (nodes-placed stmts nodes grown)

from-at : {X : Type 0} (test : ℕ → X → Bool) (i k : ℕ) (done rest : List X) (x : X) → k ≡ i + length done → IsTrue (all_from test i (done ++ x ∷ rest)) → IsTrue (test k x)
from-at test i k [] rest x e h = let here : i ≡ k = omega arith in subst (λ n. IsTrue (test n x)) here (and_first (test i x) (all_from test (i + 1) rest) h)
from-at test i k (y ∷ done) rest x e h = from-at test (i + 1) k done rest x (omega arith) (and_second (test i y) (all_from test (i + 1) (done ++ x ∷ rest)) h)

node-numbers : (stmts : List Stmt) (forest : List Branch) → IsTrue (all_from (is_placed_branch (length stmts)) 0 forest)
    → (done rest : List Branch) (k : ℕ) (b : Branch) → k ≡ length done → forest ≡ done ++ b ∷ rest → IsTrue (has_numbers (table_of stmts forest) k (info_of stmts forest k b))
node-numbers stmts forest good done rest k b count is =
    let table = table_of stmts forest in
    let here : IsTrue (is_placed_branch (length stmts) k b) = from-at (is_placed_branch (length stmts)) 0 k done rest b (omega arith) (subst (λ (f : List Branch). IsTrue (all_from (is_placed_branch (length stmts)) 0 f)) is good) in
    let parent = and_first (is_before k b.parent) (nat_lt b.module (length stmts)) here in
    let inside = and_second (is_before k b.parent) (nat_lt b.module (length stmts)) here in
    let modules = length-map stmts argument_of in
    let known : IsTrue (nat_lt b.module (length table.modules)) = grind (arith, nat_tests) in
    let types = types-count stmts forest 0 forest in
    let type : IsTrue (option_map_or (λ t. nat_lt t (length table.types)) (info_of stmts forest k b).ty true) = elim (cases_Bool (is_typed stmts b)) [
      | inl e ↦
          let before : types_before stmts forest k ≡ length (filter (is_typed stmts) done) = ap (λ xs. length (filter (is_typed stmts) (take k xs))) is ∙ ap (λ xs. length (filter (is_typed stmts) xs)) (take-front done (b ∷ rest) k count) in
          let all : length (filter (is_typed stmts) forest) ≡ length (filter (is_typed stmts) (done ++ b ∷ rest)) = ap (λ xs. length (filter (is_typed stmts) xs)) is in
          let more = filter-front (is_typed stmts) done b rest e in
          rw e (grind (arith, nat_tests))
      | inr e ↦ rw e refl
    ] in
    both (is_before k b.parent && nat_lt b.module (length table.modules)) _ (both (is_before k b.parent) (nat_lt b.module (length table.modules)) parent known) type

pub numbers-are-there-on : (stmts : List Stmt) (nodes : List TreeNode) (table : SchemaTable) → IsBuiltOn stmts nodes table → AreGrown stmts nodes
    → IsTrue (all_from (has_numbers table) 0 table.nodes)
numbers-are-there-on stmts nodes table built grown =
    let forest = forest_by stmts nodes in
    subst (λ (t : SchemaTable). IsTrue (all_from (has_numbers t) 0 t.nodes)) built.is (infos-numbered stmts forest (has_numbers (table_of stmts forest)) (node-numbers stmts forest (forest-placed stmts nodes grown)) [] forest 0 refl refl)

pub numbers_are_there : NumbersAreThere
numbers_are_there stmts table e = numbers-are-there-on stmts (nodes_of stmts) table (built_on stmts table e) (built-grown stmts)
