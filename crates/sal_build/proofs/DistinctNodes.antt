-- Below each parent, looked for through choices and cases, no two nodes for data have one name: the tree's pass says so of their statements,
-- and the statement of each is its own.
use Rattle.sal_build.specs.Readable.{has_own_places}
use Rattle.std.proofs.Common.{◌≡◌, ℕ, zero, suc, ◌+◌, ◌-◌, ◌<◌, ◌≤◌, Bool, true, false, not, ◌&&◌, IsTrue, List, [], ◌∷◌, ◌++◌, map, take, length, Option, Some, None, refl, sym, ap, ◌∙◌, subst, inl, inr, arith, append_assoc, length-append}
use Rattle.std.specs.Prelude.{◌||◌, option_map, option_and_then, unwrap_or, is_none, if◌then◌else◌}
use Rattle.std.specs.List.{list_all, list_any, flat_map, slice_get, enumerate_from, position_from}
use Rattle.std.specs.Option.{option_map_or}
use Rattle.std.proofs.lemmas.Bool.{cases_Bool}
use Rattle.std.proofs.lemmas.Bool.Decides.{nat_tests}
use Rattle.std.proofs.lemmas.List.{length-map}
use Rattle.sal_stmt.specs.declared.stmt.Stmt.{Stmt, out-Stmt}
use Rattle.sal_module.specs.declared.keyword.Keyword.{Keyword}
use Rattle.sal_module.specs.declared.keyword.Keyword.TheVariants as word
use Rattle.sal_module.specs.Keywords.{keyword_of}
use Rattle.sal_module.specs.Modules.{stmt_at}
use Rattle.sal_module.specs.Statements.{argument_of}
use Rattle.sal_grouping.proofs.DataParents.{data-stop, data-step}
use Rattle.sal_grouping.proofs.KeyMaps.{first-is}
use Rattle.sal_grouping.proofs.Parts.{TreeNode, TreeRow}
use Rattle.sal_grouping.specs.declared.forest.Branch.{Branch}
use Rattle.sal_grouping.specs.declared.forest.Implied.{Implied}
use Rattle.sal_grouping.specs.declared.forest.Implied.TheVariants as implied
use Rattle.sal_grouping.specs.Augments as tree
use Rattle.sal_grouping.specs.Children.{is_choice, is_case, above, passed, data_parent, key_of, same_key, has_key, first_with, fault_at, is_first, node_faults, child_faults}
use Rattle.sal_grouping.specs.Expand.{branch_of, source_of, place_of}
use Rattle.sal_grouping.specs.Rows.{is_block, is_keyword, keyword_at, rows_of}
use Rattle.sal_schema.specs.declared.kind.Kind.{Kind}
use Rattle.sal_schema.specs.declared.names.Named.{Named}
use Rattle.sal_schema.specs.declared.table.NodeInfo.{NodeInfo}
use Rattle.sal_schema.specs.declared.table.SchemaTable.{SchemaTable}
use Rattle.sal_schema.specs.Kinds.{is_data, is_choice_or_case}
use Rattle.sal_schema.specs.Names.{is_called, are_distinct, named, name_of_parts, data_at, data_names}
use Rattle.sal_schema.specs.Table.{each_from, all_from, closest, is_kind, parent_of, data_node}
use Rattle.sal_schema.proofs.Conjuncts.{and_first, and_second, or_first, or_second}
use Rattle.sal_schema.proofs.Facts.{closest-None, closest-Some, slice_get_there}
use Rattle.sal_build.specs.Laws.{DataNamesDiffer}
use Rattle.sal_module_table.specs.Build.{table_of}
use Rattle.sal_module_table.specs.Nodes.{kind_among, kind_in, argument_in, name_in, has}
use Rattle.sal_module_table.specs.Nodes as nodes
use Rattle.sal_module_table.specs.Table.{info_of, infos_from}
use Rattle.sal_build.proofs.Built.{IsBuiltOn, built_on, nodes_of}
use Rattle.sal_build.proofs.Distinct.{called-same, true-is, false-is, all-more, pairwise, pairs, are_apart, distinct-pairs}
use Rattle.sal_build.proofs.Grown.{AreGrown, built-grown}
use Rattle.sal_build.proofs.NamedNodes.{none-fits}
use Rattle.sal_build.proofs.Numbers.{infos-length}
use Rattle.sal_build.proofs.OwnStatements.{AreOwn, own-rows, middle-got}
use Rattle.sal_build.proofs.Quiet.{both, front-nil}
use Rattle.sal_build.proofs.Shapes.{is_before, is_seed, is_shape, before-more}
use Rattle.sal_build.proofs.Uniques.{position-at, info-got, at-place}
use Rattle.sal_build.proofs.Entries.{wrong}

-- ---- the kinds of statements

-- a container, a list, a leaf-list or a leaf
abbrev is_datum : Option Keyword → Bool
is_datum (Some word.Container) = true
is_datum (Some word.List) = true
is_datum (Some word.LeafList) = true
is_datum (Some word.Leaf) = true
is_datum keyword = false

datum-case : (keyword : Option Keyword) → is_datum keyword ≡ true → is_keyword word.Case keyword ≡ false
datum-case None e = refl
datum-case (Some word.Case) e = cc
datum-case (Some keyword) e = refl

datum-choice : (keyword : Option Keyword) → is_datum keyword ≡ true → is_keyword word.Choice keyword ≡ false
datum-choice None e = refl
datum-choice (Some word.Choice) e = cc
datum-choice (Some keyword) e = refl

abbrev is_passed : Option Keyword → Bool
is_passed keyword = is_keyword word.Choice keyword || is_keyword word.Case keyword

data-word : (presence : Bool) (keyword : Keyword) → IsTrue (is_shape (Some keyword)) → is_data (kind_among presence (Some keyword)) ≡ is_datum (Some keyword)
data-word presence word.Container h = refl
data-word presence word.Leaf h = refl
data-word presence word.LeafList h = refl
data-word presence word.List h = refl
data-word presence word.Choice h = refl
data-word presence word.Case h = refl
data-word presence word.Rpc h = refl
data-word presence word.Input h = refl
data-word presence word.Output h = refl
data-word presence word.Notification h = refl
data-word presence keyword h = absurd (wrong h)

passed-word : (presence : Bool) (keyword : Keyword) → IsTrue (is_shape (Some keyword)) → is_choice_or_case (kind_among presence (Some keyword)) ≡ is_passed (Some keyword)
passed-word presence word.Container h = refl
passed-word presence word.Leaf h = refl
passed-word presence word.LeafList h = refl
passed-word presence word.List h = refl
passed-word presence word.Choice h = refl
passed-word presence word.Case h = refl
passed-word presence word.Rpc h = refl
passed-word presence word.Input h = refl
passed-word presence word.Output h = refl
passed-word presence word.Notification h = refl
passed-word presence keyword h = absurd (wrong h)

name-word : (presence : Bool) (keyword : Keyword) (name : List ℕ) → is_datum (Some keyword) ≡ true → name_in (kind_among presence (Some keyword)) name ≡ tree.name_among name (Some keyword)
name-word presence word.Container name h = refl
name-word presence word.Leaf name h = refl
name-word presence word.LeafList name h = refl
name-word presence word.List name h = refl
name-word presence keyword name h = absurd (wrong h)

-- ---- a node, and the one of the table

-- a node in the table is the same as in the tree
record IsSeen (stmt : Option Stmt) (side : Option Implied) (keyword : Option Keyword) (name : List ℕ) : Type 0 where
  datum : is_data (kind_in stmt side) ≡ is_datum (tree.kind_among keyword side)
  passed : is_choice_or_case (kind_in stmt side) ≡ is_passed (tree.kind_among keyword side)
  naming : is_datum (tree.kind_among keyword side) ≡ true → name_in (kind_in stmt side) (argument_in stmt) ≡ tree.name_among name (tree.kind_among keyword side)

seen-stmt : (keyword : Keyword) (stmt : Stmt) (side : Option Implied) (name : List ℕ) → keyword_of (out-Stmt stmt).keyword ≡ Some keyword → argument_of stmt ≡ name → IsTrue (is_seed side (Some keyword))
    → IsSeen (Some stmt) side (Some keyword) name
seen-stmt keyword stmt None name e is h =
    let presence = has word.Presence (Some stmt) in
    let kind : kind_in (Some stmt) None ≡ kind_among presence (Some keyword) = ap (kind_among presence) e in
    record {
      datum = ap is_data kind ∙ data-word presence keyword h;
      passed = ap is_choice_or_case kind ∙ passed-word presence keyword h;
      naming = λ datum. (λ i. name_in (kind i) (is i)) ∙ name-word presence keyword name datum;
    }
seen-stmt keyword stmt (Some implied.Case) name e is h = record { datum = refl; passed = refl; naming = λ datum. absurd (wrong datum) }
seen-stmt keyword stmt (Some implied.Input) name e is h = record { datum = refl; passed = refl; naming = λ datum. absurd (wrong datum) }
seen-stmt keyword stmt (Some implied.Output) name e is h = record { datum = refl; passed = refl; naming = λ datum. absurd (wrong datum) }

-- ---- lists

pub got-map : {X Y : Type 0} (f : X → Y) (xs : List X) (k : ℕ) (x : X) → slice_get xs k ≡ Some x → slice_get (map f xs) k ≡ Some (f x)
got-map f [] k x e = cc
got-map f (y ∷ xs) zero x e = let is : y ≡ x = cc in ap (λ z. Some (f z)) is
got-map f (y ∷ xs) (suc k) x e = got-map f xs k x e

any-none : {X : Type 0} (p : X → Bool) → ((x : X) → p x ≡ false) → (xs : List X) → list_any p xs ≡ false
any-none p each [] = refl
any-none p each (x ∷ xs) = rw (each x) (any-none p each xs)

any-less : {X : Type 0} (p q : X → Bool) → ((x : X) → p x ≡ true → q x ≡ true) → (xs : List X) → list_any q xs ≡ false → list_any p xs ≡ false
any-less p q shows [] h = refl
any-less p q shows (x ∷ xs) h = elim (cases_Bool (p x)) [
  | inl t ↦ absurd (wrong (sym (or_first (q x) (list_any q xs) h) ∙ shows x t))
  | inr f ↦ rw f (any-less p q shows xs (or_second (q x) (list_any q xs) h))
]

not-found : {X : Type 0} (p : X → Bool) (n : ℕ) (xs : List X) → is_none (position_from p n xs) ≡ true → list_any p xs ≡ false
not-found p n [] e = refl
not-found p n (x ∷ xs) e = elim (cases_Bool (p x)) [
  | inl t ↦ let no = rw t at e in cc
  | inr f ↦ rw f (not-found p (n + 1) xs (rw f at e))
]

found-here : (k : ℕ) (found : Option ℕ) → is_block k found ≡ true → found ≡ Some k
found-here k None e = cc
found-here k (Some j) e = let is : j ≡ k = grind (arith, nat_tests) in ap Some is

pub each-same : {X : Type 0} (f g : ℕ → X → List Named) (good : ℕ → X → Bool) (count : ℕ) → ((k : ℕ) (x : X) → k < count → IsTrue (good k x) → f k x ≡ g k x) → (k : ℕ) (xs : List X) → k + length xs ≤ count
    → IsTrue (all_from good k xs) → each_from f k xs ≡ each_from g k xs
each-same f g good count same k [] h all = refl
each-same f g good count same k (x ∷ xs) h all =
    let here = same k x (omega arith) (and_first (good k x) (all_from good (k + 1) xs) all) in
    let rest = each-same f g good count same (k + 1) xs (omega arith) (and_second (good k x) (all_from good (k + 1) xs) all) in
    λ i. here i ++ rest i

pub each-infos : {X : Type 0} (stmts : List Stmt) (forest : List Branch) (f : ℕ → NodeInfo → List Named) (h : X → Branch) (k : ℕ) (xs : List X)
    → each_from f k (infos_from stmts forest k (map h xs)) ≡ each_from (λ k x. f k (info_of stmts forest k (h x))) k xs
each-infos stmts forest f h k [] = refl
each-infos stmts forest f h k (x ∷ xs) = ap (λ rest. f k (info_of stmts forest k (h x)) ++ rest) (each-infos stmts forest f h (k + 1) xs)

pub all-two : {X : Type 0} (a b : ℕ → X → Bool) (k : ℕ) (xs : List X) → IsTrue (all_from a k xs) → IsTrue (all_from b k xs) → IsTrue (all_from (λ j y. a j y && b j y) k xs)
all-two a b k [] h i = refl
all-two a b k (x ∷ xs) h i =
    both (a k x && b k x) (all_from (λ j y. a j y && b j y) (k + 1) xs) (both (a k x) (b k x) (and_first (a k x) (all_from a (k + 1) xs) h) (and_first (b k x) (all_from b (k + 1) xs) i))
    (all-two a b (k + 1) xs (and_second (a k x) (all_from a (k + 1) xs) h) (and_second (b k x) (all_from b (k + 1) xs) i))

pairwise-with : {X : Type 0} (good : ℕ → X → Bool) (r : ℕ → X → ℕ → X → Bool) (i : ℕ) (xs : List X) → IsTrue (all_from good i xs) → IsTrue (pairwise r i xs) → IsTrue (pairwise (λ i x j y. good j y && r i x j y) i xs)
pairwise-with good r i [] h k = refl
pairwise-with good r i (x ∷ xs) h k =
    let later = and_second (good i x) (all_from good (i + 1) xs) h in
    both (all_from (λ j y. good j y && r i x j y) (i + 1) xs) (pairwise (λ i x j y. good j y && r i x j y) (i + 1) xs)
    (all-two good (r i x) (i + 1) xs later (and_first (all_from (r i x) (i + 1) xs) (pairwise r (i + 1) xs) k)) (pairwise-with good r (i + 1) xs later (and_second (all_from (r i x) (i + 1) xs) (pairwise r (i + 1) xs) k))

-- ---- the tree

-- the branches of the nodes, and their table
abbrev pub forest_of : List Stmt → List TreeNode → List Branch
forest_of stmts all = map (branch_of (rows_of stmts)) all

abbrev pub table_over : List Stmt → List TreeNode → SchemaTable
table_over stmts all = table_of stmts (forest_of stmts all)

module _ (stmts : List Stmt) (owns : AreOwn stmts (rows_of stmts)) (all : List TreeNode) (grown : AreGrown stmts all) where
  abbrev rows : List TreeRow
  rows = rows_of stmts

  abbrev forest : List Branch
  forest = forest_of stmts all

  abbrev table : SchemaTable
  table = table_over stmts all

  -- its parent is before it, and its statement makes a node
  abbrev pub is_fit : ℕ → TreeNode → Bool
  is_fit k node = is_before k node.parent && is_seed node.implied (keyword_at rows node.row)

  pub nodes-fit : IsTrue (all_from is_fit 0 all)
  nodes-fit = grown is_fit (λ owner k parent seed h before fit. both (is_before k parent) (is_seed seed.1 (keyword_at rows seed.0)) before fit)

  -- ---- one node

  seen-row : (k : ℕ) (side : Option Implied) (row : Option TreeRow) → slice_get rows k ≡ row → IsTrue (is_seed side (option_map (λ (row : TreeRow). row.keyword) row))
      → IsSeen (stmt_at stmts (source_of row) (place_of row)) side (option_map (λ (row : TreeRow). row.keyword) row) (unwrap_or (option_map (λ (row : TreeRow). row.name) row) [])
  seen-row k side None e h = absurd (wrong (sym (none-fits side) ∙ h))
  seen-row k side (Some row) e h =
      let own = owns k row e in
      subst (λ (o : Option Stmt). IsSeen o side (Some row.keyword) row.name) (sym own.found) (seen-stmt row.keyword own.stmt side row.name own.keyword own.name h)

  seen : (k : ℕ) (node : TreeNode) → IsTrue (is_fit k node) → IsSeen (stmt_at stmts (source_of (slice_get rows node.row)) (place_of (slice_get rows node.row))) node.implied (keyword_at rows node.row) (tree.row_name rows node.row)
  seen k node h = seen-row node.row node.implied (slice_get rows node.row) refl (and_second (is_before k node.parent) (is_seed node.implied (keyword_at rows node.row)) h)

  -- ---- the data parent of a node

  abbrev stops : Kind → Bool
  stops kind = not (is_choice_or_case kind)

  climb : (n m : ℕ) (here : Option ℕ) → IsTrue (is_before n here) → IsTrue (is_before m here) → IsTrue (is_before (length all) here) → closest stops table n here ≡ data_parent m rows all here
  climb n m None h k low = closest-None stops table n ∙ sym (data-stop m rows all None refl)
  climb zero m (Some q) h k low = absurd (let no : q < 0 = grind (arith, nat_tests) in omega (arith, no))
  climb (suc n) m (Some q) h k low =
      let inside : q < length all = grind (arith, nat_tests) in
      let few : q ≤ n = grind (arith, nat_tests) in
      let enough : q < m = grind (arith, nat_tests) in
      let (node, at) = slice_get_there all q inside in
      let fit : IsTrue (is_fit (0 + q) node) = at-place is_fit 0 q all node nodes-fit at in
      let info = info-got stmts forest 0 q forest (branch_of rows node) (got-map (branch_of rows) all q node at) in
      let kind : is_kind stops table q ≡ not (is_choice rows node || is_case rows node) =
      ap (λ (o : Option NodeInfo). option_map_or stops (option_map (λ (info : NodeInfo). info.kind) o) false) info ∙ ap not (seen (0 + q) node fit).passed in
      let up : parent_of table q ≡ node.parent = ap (λ (o : Option NodeInfo). option_and_then (λ (info : NodeInfo). info.parent) o) info in
      let early : IsTrue (is_before (0 + q) node.parent) = and_first (is_before (0 + q) node.parent) (is_seed node.implied (keyword_at rows node.row)) fit in
      elim (cases_Bool (is_choice rows node || is_case rows node)) [
        | inl t ↦
            let over : passed rows all (Some q) ≡ Some node.parent = ap (above rows) at ∙ rw t refl in
            let other : is_kind stops table q ≡ false = kind ∙ rw t refl in
            let rest = climb n (m - 1) node.parent (before-more (0 + q) n node.parent (omega arith) early) (before-more (0 + q) (m - 1) node.parent (omega arith) early) (before-more (0 + q) (length all) node.parent (omega arith) early) in
            let step : closest stops table (suc n) (Some q) ≡ closest stops table n (parent_of table q) = closest-Some stops table n q ∙ rw other refl in
            step ∙ ap (closest stops table n) up ∙ rest ∙ sym (data-step m rows all (Some q) node.parent (omega arith) over)
        | inr f ↦
            let ends : passed rows all (Some q) ≡ None = ap (above rows) at ∙ rw f refl in
            let here : is_kind stops table q ≡ true = kind ∙ rw f refl in
            let stop : closest stops table (suc n) (Some q) ≡ Some q = closest-Some stops table n q ∙ rw here refl in
            stop ∙ sym (data-stop m rows all (Some q) ends)
      ]

  -- ---- its name

  -- by the tree alone
  abbrev name_at : ℕ → TreeNode → List Named
  name_at k node = if is_datum (tree.kind_of rows node) then named (data_parent (length all) rows all node.parent) node.module (tree.name_of rows node) k ∷ [] else []

  same-name : (k : ℕ) (node : TreeNode) → k < length all → IsTrue (is_fit k node) → data_at table k (info_of stmts forest k (branch_of rows node)) ≡ name_at k node
  same-name k node h fit =
      let view = seen k node fit in
      let early = and_first (is_before k node.parent) (is_seed node.implied (keyword_at rows node.row)) fit in
      let count : length all ≡ length table.nodes = sym (length-map all (branch_of rows)) ∙ sym (infos-length stmts forest 0 forest) in
      let low : IsTrue (is_before (length all) node.parent) = before-more k (length all) node.parent (omega arith) early in
      let under : data_node table node.parent ≡ data_parent (length all) rows all node.parent = climb (length table.nodes) (length all) node.parent (subst (λ n. IsTrue (is_before n node.parent)) count low) low low in
      elim (cases_Bool (is_datum (tree.kind_of rows node))) [
        | inl t ↦
            let kind : is_data (nodes.kind_of stmts (branch_of rows node)) ≡ true = view.datum ∙ t in
            let name : nodes.name_of stmts (branch_of rows node) ≡ tree.name_of rows node = view.naming t in
            rw (kind, t) (λ i. named (under i) node.module (name i) k ∷ [])
        | inr f ↦
            let kind : is_data (nodes.kind_of stmts (branch_of rows node)) ≡ false = view.datum ∙ f in
            rw (kind, f) refl
      ]

  -- ---- no two have one name

  abbrev pub is_itself : TreeNode → Bool
  is_itself node = same_key (key_of rows all node) (key_of rows all node)

  abbrev pub is_fresh : ℕ → TreeNode → Bool
  is_fresh k node = is_choice rows node || (is_itself node && not (list_any (has_key rows all (key_of rows all node)) (take k all)))

  no-row : (node : TreeNode) (row : Option TreeRow) → IsTrue (is_seed node.implied (option_map (λ (row : TreeRow). row.keyword) row)) → fault_at row ≡ [] → ⊥
  no-row node None h e = wrong (sym (none-fits node.implied) ∙ h)
  no-row node (Some row) h e = cc

  fresh-one : (k : ℕ) (node : TreeNode) → slice_get all k ≡ Some node → IsTrue (is_fit k node) → node_faults rows all k node ≡ [] → IsTrue (is_fresh k node)
  fresh-one k node at fit e = elim (cases_Bool (is_choice rows node)) [
    | inl t ↦ rw t refl
    | inr f ↦
        (let p : TreeNode → Bool = has_key rows all (key_of rows all node) in
        elim (cases_Bool (is_block k (first_with rows all (key_of rows all node) all))) [
          | inl found_first ↦
              (let first : is_first rows all k node ≡ true = rw f found_first in
              let none = not-found p 0 (take k all) (first-is rows all k node at f ∙ first) in
              let found = position-at p 0 all k (found-here k (first_with rows all (key_of rows all node) all) found_first) in
              let there : k ≡ found.place = omega (arith, found.is) in
              let one : Some found.one ≡ Some node = sym found.got ∙ ap (slice_get all) (sym there) ∙ at in
              let is : found.one ≡ node = cc in
              let passes : p node ≡ true = ap p (sym is) ∙ found.passes in
              let own : is_itself node ≡ true = and_second (not (is_choice rows node)) (is_itself node) passes in
              rw f (both (is_itself node) (not (list_any p (take k all))) own (false-is (list_any p (take k all)) none)))
          | inr later ↦ (let fault : fault_at (slice_get rows node.row) ≡ [] = rw (f, later) at e in absurd (no-row node (slice_get rows node.row) (and_second (is_before k node.parent) (is_seed node.implied (keyword_at rows node.row)) fit) fault))
        ])
  ]

  pub fresh-from : (done rest : List TreeNode) (k : ℕ) → k ≡ length done → all ≡ done ++ rest → IsTrue (all_from is_fit k rest) → flat_map (λ (entry : ℕ × TreeNode). node_faults rows all entry.0 entry.1) (enumerate_from k rest) ≡ []
      → IsTrue (all_from is_fresh k rest)
  fresh-from done [] k count is fit e = refl
  fresh-from done (node ∷ rest) k count is fit e =
      let (here, later) = front-nil (node_faults rows all k node) (flat_map (λ (entry : ℕ × TreeNode). node_faults rows all entry.0 entry.1) (enumerate_from (k + 1) rest)) e in
      let at : slice_get all k ≡ Some node = ap (λ (xs : List TreeNode). slice_get xs k) is ∙ middle-got done rest node k count in
      both (is_fresh k node) (all_from is_fresh (k + 1) rest) (fresh-one k node at (and_first (is_fit k node) (all_from is_fit (k + 1) rest) fit) here)
      (fresh-from (done ++ node ∷ []) rest (k + 1) (omega (arith, length-append done (node ∷ []))) (is ∙ sym (append_assoc done (node ∷ []) rest)) (and_second (is_fit k node) (all_from is_fit (k + 1) rest) fit) later)

  -- an earlier node has its key
  abbrev pub is_double : TreeNode → TreeNode → Bool
  is_double later node = not (is_choice rows later) && has_key rows all (key_of rows all later) node

  pub none-double : (k : ℕ) (node : TreeNode) → IsTrue (is_fresh k node) → IsTrue (not (list_any (is_double node) (take k all)))
  none-double k node h = elim (cases_Bool (is_choice rows node)) [
    | inl t ↦ false-is (list_any (is_double node) (take k all)) (any-none (is_double node) (λ x. rw t refl) (take k all))
    | inr f ↦
        (let p : TreeNode → Bool = has_key rows all (key_of rows all node) in
        let parts : IsTrue (is_itself node && not (list_any p (take k all))) = rw f at h in
        let none = true-is (list_any p (take k all)) (and_second (is_itself node) (not (list_any p (take k all))) parts) in
        false-is (list_any (is_double node) (take k all)) (any-less (is_double node) p (λ x e. and_second (not (is_choice rows node)) (p x) e) (take k all) none))
  ]

  abbrev pub is_known : ℕ → TreeNode → Bool
  is_known k node = is_choice rows node || is_itself node

  pub known-fresh : (k : ℕ) (node : TreeNode) → IsTrue (is_fresh k node) → IsTrue (is_known k node)
  known-fresh k node h = elim (cases_Bool (is_choice rows node)) [
    | inl t ↦ rw t refl
    | inr f ↦ (let parts : IsTrue (is_itself node && not (list_any (has_key rows all (key_of rows all node)) (take k all))) = rw f at h in rw f (and_first (is_itself node) (not (list_any (has_key rows all (key_of rows all node)) (take k all))) parts))
  ]

  pub same-keys : (x y : TreeNode) → is_case rows x ≡ false → is_case rows y ≡ false → data_parent (length all) rows all y.parent ≡ data_parent (length all) rows all x.parent → y.module ≡ x.module → tree.name_of rows y ≡ tree.name_of rows x
      → key_of rows all y ≡ key_of rows all x
  same-keys x y cx cy p m n = rw (cx, cy) (λ i. record { case = false; scope = p i; «module» = m i; name = n i })

  apart-two : (i : ℕ) (x : TreeNode) (j : ℕ) (y : TreeNode) → IsTrue (is_known j y && not (is_double y x)) → IsTrue (are_apart (name_at i x) (name_at j y))
  apart-two i x j y h = elim (cases_Bool (is_datum (tree.kind_of rows x))) [
    | inr f ↦ rw f refl
    | inl t ↦
        (elim (cases_Bool (is_datum (tree.kind_of rows y))) [
          | inr f ↦ rw (t, f) refl
          | inl u ↦
              (let above = λ (node : TreeNode). data_parent (length all) rows all node.parent in
              elim (cases_Bool (is_called (name_of_parts (above x) x.module (tree.name_of rows x)) (named (above y) y.module (tree.name_of rows y) j))) [
                | inr f ↦ rw (t, u, f) refl
                | inl e ↦
                    (let alike = called-same (above x) (above y) x.module y.module j (tree.name_of rows x) (tree.name_of rows y) e in
                    let keys = same-keys x y (datum-case (tree.kind_of rows x) t) (datum-case (tree.kind_of rows y) u) alike.0 alike.1.0 alike.1.1 in
                    let plain_x = datum-choice (tree.kind_of rows x) t in
                    let plain_y = datum-choice (tree.kind_of rows y) u in
                    let known : IsTrue (is_known j y) = and_first (is_known j y) (not (is_double y x)) h in
                    let itself : is_itself y ≡ true = rw plain_y at known in
                    let has : same_key (key_of rows all y) (key_of rows all x) ≡ true = ap (same_key (key_of rows all y)) (sym keys) ∙ itself in
                    let double : is_double y x ≡ true = rw (plain_x, plain_y) has in
                    let no = true-is (is_double y x) (and_second (is_known j y) (not (is_double y x)) h) in
                    absurd (wrong (sym no ∙ double)))
              ])
        ])
  ]

  alone : (k : ℕ) (node : TreeNode) → IsTrue (are_distinct (name_at k node))
  alone k node = elim (cases_Bool (is_datum (tree.kind_of rows node))) [ inl t ↦ rw t refl | inr f ↦ rw f refl ]

  pub data-distinct : child_faults rows all ≡ [] → IsTrue (are_distinct (data_names table))
  data-distinct quiet =
      let fresh = fresh-from [] all 0 refl refl nodes-fit quiet in
      let news = all-more is_fresh (λ k node. not (list_any (is_double node) (take k all))) 0 all (λ k node less h. none-double k node h) fresh in
      let known = all-more is_fresh is_known 0 all (λ k node less h. known-fresh k node h) fresh in
      let apart = pairwise-with is_known (λ i x j y. not (is_double y x)) 0 all known (pairs is_double all [] all 0 refl refl news) in
      let names = distinct-pairs name_at (λ i x j y. is_known j y && not (is_double y x)) alone apart-two 0 all apart in
      let same = each-infos stmts forest (data_at table) (branch_of rows) 0 all
      ∙ each-same (λ k node. data_at table k (info_of stmts forest k (branch_of rows node))) name_at is_fit (length all) (λ k node h fit. same-name k node h fit) 0 all (omega arith) nodes-fit in
      subst (λ (list : List Named). IsTrue (are_distinct list)) (sym same) names

pub data-names-differ-on : (stmts : List Stmt) (nodes : List TreeNode) (table : SchemaTable) → IsTrue (list_all has_own_places stmts) → IsBuiltOn stmts nodes table → AreGrown stmts nodes
    → IsTrue (are_distinct (data_names table))
data-names-differ-on stmts nodes table differ built grown =
    let owns = own-rows stmts differ built.checked.profile in
    subst (λ (t : SchemaTable). IsTrue (are_distinct (data_names t))) built.is (data-distinct stmts owns nodes grown built.children)

pub data_names_differ : DataNamesDiffer
data_names_differ stmts table differ e = data-names-differ-on stmts (nodes_of stmts) table differ (built_on stmts table e) (built-grown stmts)
