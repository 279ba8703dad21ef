-- The leafs that lists name by `unique` and `key`.
use Rattle.sal_grouping.proofs.Parts.{TreeNode}
use Rattle.sal_build.proofs.Grown.{AreGrown, built-grown}
use Rattle.std.proofs.Common.{◌≡◌, ℕ, zero, suc, ◌+◌, ◌<◌, Bool, true, false, cond, ◌&&◌, nat_lt, nat_eq, IsTrue, List, [], ◌∷◌, ◌++◌, map, length, Option, Some, None, refl, sym, ap, ◌∙◌, subst, inl, inr, arith}
use Rattle.std.specs.Prelude.{IfSome, option_map, option_and_then}
use Rattle.std.specs.List.{list_all, flat_map, slice_get, position_from}
use Rattle.std.specs.Option.{option_map_or, option_to_list}
use Rattle.std.specs.declared.cmp.Ordering.TheVariants.{Equal}
use Rattle.std.specs.Cmp.{Equal-is}
use Rattle.std.specs.FinMap.{nat_cmp-IsAntisymmetric}
use Rattle.std.proofs.lemmas.Bool.{cases_Bool}
use Rattle.std.proofs.lemmas.Bool.Decides.{nat_tests}
use Rattle.sal_types.specs.Order.{then-first}
use Rattle.sal_stmt.specs.declared.stmt.Stmt.{Stmt}
use Rattle.sal_module.specs.declared.keyword.Keyword.TheVariants as word
use Rattle.sal_module.specs.Statements.{is_named, argument_of}
use Rattle.sal_grouping.specs.declared.forest.Branch.{Branch}
use Rattle.sal_schema.specs.declared.kind.Kind.{Kind}
use Rattle.sal_schema.specs.declared.table.NodeInfo.{NodeInfo}
use Rattle.sal_schema.specs.declared.table.SchemaTable.{SchemaTable}
use Rattle.sal_schema.specs.Kinds.{is_leaf, is_list}
use Rattle.sal_schema.specs.Table.{all_from, is_same, is_kind, parent_of, closest, list_above}
use Rattle.sal_schema.specs.Valid.{has_its_uniques}
use Rattle.sal_schema.proofs.Conjuncts.{and_first, and_second}
use Rattle.sal_schema.proofs.Facts.{closest-None, closest-Some, lower, slice_get_some}
use Rattle.sal_module_table.specs.declared.child.Key.{Key}
use Rattle.sal_module_table.specs.Build.{table_of}
use Rattle.sal_module_table.specs.Children.{key, key_cmp, same_key, is_found_by, first_with, child_key, child_named, module_named, local_name}
use Rattle.sal_build.specs.Laws.{UniquesAreBelow, KeysAreInside}
use Rattle.sal_module_table.specs.Lists.{is_list_at, unless_list, given, leaf_below, unique_leaf, uniques_named, uniques_in, uniques_of, key_leaf, keys_named, keys_in, keys_of, block_of, own_stmt, words_of, steps_of}
use Rattle.sal_module_table.specs.Nodes as nodes
use Rattle.sal_module_table.specs.Table.{info_of, infos_from}
use Rattle.sal_build.proofs.Built.{IsBuiltOn, built_on, forest_by, nodes_of}
use Rattle.sal_build.proofs.InfoLists.{infos-numbered}
use Rattle.sal_build.proofs.Numbers.{infos-length, is_placed_branch, forest-placed}
use Rattle.sal_build.proofs.Quiet.{both, all-joined}
use Rattle.sal_build.proofs.Shapes.{is_before}

-- ---- a node that was found

key-parts : (l h : Bool) (p q : Option ℕ) (m k : ℕ) (t u : List ℕ) → key_cmp (key l p m t) (key h q k u) ≡ Equal → (l ≡ h) × (p ≡ q)
key-parts true false p q m k t u e = cc
key-parts false true p q m k t u e = cc
key-parts true true None None m k t u e = (refl, refl)
key-parts true true None (Some q) m k t u e = cc
key-parts true true (Some p) None m k t u e = cc
key-parts true true (Some p) (Some q) m k t u e = (refl, ap Some (nat_cmp-IsAntisymmetric p q (then-first _ _ e)))
key-parts false false None None m k t u e = (refl, refl)
key-parts false false None (Some q) m k t u e = cc
key-parts false false (Some p) None m k t u e = cc
key-parts false false (Some p) (Some q) m k t u e = (refl, ap Some (nat_cmp-IsAntisymmetric p q (then-first _ _ e)))

key-same : (x y : Key) → same_key x y ≡ true → (x.leaf ≡ y.leaf) × (x.above ≡ y.above)
key-same x y e = key-parts x.leaf y.leaf x.above y.above x.module y.module x.name y.name ((Equal-is (key_cmp x y)).0 e)

pub record IsAt {X : Type 0} (p : X → Bool) (i : ℕ) (xs : List X) (j : ℕ) : Type 0 where
  pub place : ℕ
  pub one : X
  pub is : j ≡ i + place
  pub got : slice_get xs place ≡ Some one
  pub passes : p one ≡ true

pub position-at : {X : Type 0} (p : X → Bool) (i : ℕ) (xs : List X) (j : ℕ) → position_from p i xs ≡ Some j → IsAt p i xs j
position-at p i [] j e = cc
position-at p i (x ∷ xs) j e = elim (cases_Bool (p x)) [
  | inl t ↦ (let h : Some i ≡ Some j = rw t at e in let is : i ≡ j = cc in record { place = 0; one = x; is = omega arith; got = refl; passes = t })
  | inr f ↦ (let rest = position-at p (i + 1) xs j (rw f at e) in record { place = suc rest.place; one = rest.one; is = omega (arith, rest.is); got = rest.got; passes = rest.passes })
]

module _ (stmts : List Stmt) (forest : List Branch) where
  -- a child by name: of the kind and below the node that were asked for
  pub record IsChild (leaf : Bool) (above n : ℕ) : Type 0 where
    pub branch : Branch
    pub got : slice_get forest n ≡ Some branch
    pub kind : is_leaf (nodes.kind_of stmts branch) ≡ leaf
    pub parent : branch.parent ≡ Some above

  found-child : (leaf : Bool) (above m n : ℕ) (text : List ℕ) → first_with (child_key stmts) forest (key leaf (Some above) m text) ≡ Some n → IsChild leaf above n
  found-child leaf above m n text e =
      let found = position-at (λ b. is_found_by (key leaf (Some above) m text) (child_key stmts b)) 0 forest n e in
      let same = key-same (key leaf (Some above) m text) (key (is_leaf (nodes.kind_of stmts found.one)) found.one.parent found.one.module (nodes.name_of stmts found.one)) found.passes in
      let at : found.place ≡ n = omega (arith, found.is) in
      record {
        branch = found.one;
        got = ap (slice_get forest) (sym at) ∙ found.got;
        kind = sym same.0;
        parent = sym same.1;
      }

  pub child-is : (b : Branch) (leaf : Bool) (above : ℕ) (text : List ℕ) (n : ℕ) → child_named stmts forest b leaf above text ≡ Some n → IsChild leaf above n
  child-is b leaf above text n e =
      elim (module_named stmts b text) as (λ f. option_and_then (λ m. first_with (child_key stmts) forest (key leaf (Some above) m (local_name text))) f ≡ Some n → IsChild leaf above n) [
        | None ↦ λ none. absurd (nothing n none)
        | Some m ↦ λ found. found-child leaf above m n (local_name text) found
      ] e
    where
      nothing : (n : ℕ) → ◌≡◌ {A = Option ℕ} None (Some n) → ⊥
      nothing n e = cc

-- ---- a node of the table

pub info-got : (stmts : List Stmt) (forest : List Branch) (i n : ℕ) (rest : List Branch) (b : Branch) → slice_get rest n ≡ Some b → slice_get (infos_from stmts forest i rest) n ≡ Some (info_of stmts forest (i + n) b)
info-got stmts forest i n [] b e = cc
info-got stmts forest i zero (x ∷ rest) b e = let is : x ≡ b = cc in let here : i + 0 ≡ i = omega arith in rw here (ap (λ y. Some (info_of stmts forest i y)) is)
info-got stmts forest i (suc n) (x ∷ rest) b e = let there : i + suc n ≡ i + 1 + n = omega arith in rw there (info-got stmts forest (i + 1) n rest b e)

pub at-place : {X : Type 0} (test : ℕ → X → Bool) (i n : ℕ) (xs : List X) (x : X) → IsTrue (all_from test i xs) → slice_get xs n ≡ Some x → IsTrue (test (i + n) x)
at-place test i n [] x h e = cc
at-place test i zero (y ∷ xs) x h e = let is : y ≡ x = cc in let here : i + 0 ≡ i = omega arith in rw here (subst (λ z. IsTrue (test i z)) is (and_first (test i y) (all_from test (i + 1) xs) h))
at-place test i (suc n) (y ∷ xs) x h e = let there : i + suc n ≡ i + 1 + n = omega arith in rw there (at-place test (i + 1) n xs x (and_second (test i y) (all_from test (i + 1) xs) h) e)

module _ (table : SchemaTable) (before : (n : ℕ) → IfSome (parent_of table n) (λ p. p < n)) (test : Kind → Bool) where
  -- as many steps as the number are enough
  enough : (m k : ℕ) (here : Option ℕ) → IfSome here (λ n. n < m) → IfSome here (λ n. n < k) → closest test table m here ≡ closest test table k here
  enough m k None h i = closest-None test table m ∙ sym (closest-None test table k)
  enough zero k (Some n) h i = absurd (omega arith)
  enough (suc m) zero (Some n) h i = absurd (omega arith)
  enough (suc m) (suc k) (Some n) h i =
      closest-Some test table m n
      ∙ ap (λ above. cond (is_kind test table n) (Some n) above) (enough m k (parent_of table n) (lower (parent_of table n) n m (before n) (omega arith)) (lower (parent_of table n) n k (before n) (omega arith)))
      ∙ sym (closest-Some test table k n)

  -- one step up, over a node that does not pass
  pub over-one : (many n above : ℕ) → n < many → is_kind test table n ≡ false → parent_of table n ≡ Some above → closest test table many (Some n) ≡ closest test table many (Some above)
  over-one zero n above h other at = absurd (omega arith)
  over-one (suc many) n above h other at =
      let less : IfSome (Some above) (λ p. p < n) = subst (λ (o : Option ℕ). IfSome o (λ p. p < n)) at (before n) in
      let low : above < n = less in
      closest-Some test table many n ∙ rw other (ap (closest test table many) at ∙ enough many (suc many) (Some above) (omega arith) (omega arith))

  pub here-one : (many n : ℕ) → n < many → is_kind test table n ≡ true → closest test table many (Some n) ≡ Some n
  here-one zero n h passes = absurd (omega arith)
  here-one (suc many) n h passes = closest-Some test table many n ∙ rw passes refl

-- ---- the leafs of a list

module _ (stmts : List Stmt) (forest : List Branch) (placed : IsTrue (all_from (is_placed_branch (length stmts)) 0 forest)) where
  abbrev table : SchemaTable
  table = table_of stmts forest

  kind-got : (test : Kind → Bool) (n : ℕ) (b : Branch) → slice_get forest n ≡ Some b → is_kind test (table_of stmts forest) n ≡ test (nodes.kind_of stmts b)
  kind-got test n b e = ap (λ r. option_map_or test (option_map (λ (node : NodeInfo). node.kind) r) false) (info-got stmts forest 0 n forest b e)

  parent-got : (n : ℕ) (b : Branch) → slice_get forest n ≡ Some b → parent_of (table_of stmts forest) n ≡ b.parent
  parent-got n b e = ap (λ r. option_and_then (λ (node : NodeInfo). node.parent) r) (info-got stmts forest 0 n forest b e)

  none-past : (i n : ℕ) (rest : List Branch) → slice_get rest n ≡ None → slice_get (infos_from stmts forest i rest) n ≡ None
  none-past i n [] e = refl
  none-past i zero (x ∷ rest) e = cc
  none-past i (suc n) (x ∷ rest) e = none-past (i + 1) n rest e

  parent-low : (n : ℕ) (parent : Option ℕ) → IsTrue (is_before n parent) → IfSome parent (λ p. p < n)
  parent-low n None h = tt
  parent-low n (Some p) h = grind (arith, nat_tests)

  pub parents-before : (n : ℕ) → IfSome (parent_of (table_of stmts forest) n) (λ p. p < n)
  parents-before n = elim (slice_get forest n) as (λ r. slice_get forest n ≡ r → IfSome (parent_of (table_of stmts forest) n) (λ p. p < n)) [
    | None ↦ λ e.
        let none : parent_of (table_of stmts forest) n ≡ None = ap (λ r. option_and_then (λ (node : NodeInfo). node.parent) r) (none-past 0 n forest e) in
        subst (λ (o : Option ℕ). IfSome o (λ p. p < n)) (sym none) tt
    | Some b ↦ λ e.
        let here = at-place (is_placed_branch (length stmts)) 0 n forest b placed e in
        let same : 0 + n ≡ n = omega arith in
        let low = parent-low n b.parent (subst (λ k. IsTrue (is_before k b.parent)) same (and_first (is_before (0 + n) b.parent) (nat_lt b.module (length stmts)) here)) in
        subst (λ (o : Option ℕ). IfSome o (λ p. p < n)) (sym (parent-got n b e)) low
  ] refl

  abbrev size : ℕ
  size = length (infos_from stmts forest 0 forest)

  there : (n : ℕ) (b : Branch) → slice_get forest n ≡ Some b → n < length (infos_from stmts forest 0 forest)
  there n b e = let (inside, here) = slice_get_some forest n b e in omega (arith, infos-length stmts forest 0 forest)

  same-itself : (k : ℕ) → IsTrue (is_same (Some k) (Some k))
  same-itself k = let here : nat_eq k k ≡ true = grind (arith, nat_tests) in here

  module _ (k : ℕ) (b : Branch) where
    abbrev is_below : ℕ → Bool
    is_below leaf = is_kind is_leaf (table_of stmts forest) leaf && is_same (list_above (table_of stmts forest) leaf) (Some k)

    -- under a node from which the list is the closest
    abbrev IsUnder : ℕ → Type 0
    IsUnder above = closest is_list (table_of stmts forest) (length (infos_from stmts forest 0 forest)) (Some above) ≡ Some k

    leaf-below : (above : ℕ) → IsUnder above → (n : ℕ) → IsChild stmts forest true above n → IsTrue (is_below n)
    leaf-below above under n child =
        let leaf : is_kind is_leaf (table_of stmts forest) n ≡ true = kind-got is_leaf n child.branch child.got ∙ child.kind in
        let up : list_above (table_of stmts forest) n ≡ Some k = ap (closest is_list (table_of stmts forest) (length (infos_from stmts forest 0 forest))) (parent-got n child.branch child.got ∙ child.parent) ∙ under in
        both (is_kind is_leaf (table_of stmts forest) n) (is_same (list_above (table_of stmts forest) n) (Some k)) leaf (subst (λ (o : Option ℕ). IsTrue (is_same o (Some k))) (sym up) (same-itself k))

    node-under : (above : ℕ) → IsUnder above → (n : ℕ) → IsChild stmts forest false above n → is_list_at stmts forest n ≡ false → IsUnder n
    node-under above under n child other =
        let plain : is_list (nodes.kind_of stmts child.branch) ≡ false = ap (λ r. option_map_or (λ b. is_list (nodes.kind_of stmts b)) r false) (sym child.got) ∙ other in
        over-one (table_of stmts forest) parents-before is_list (length (infos_from stmts forest 0 forest)) n above (there n child.branch child.got) (kind-got is_list n child.branch child.got ∙ plain)
        (parent-got n child.branch child.got ∙ child.parent) ∙ under

    leafs-below : (above : ℕ) (steps : List (List ℕ)) → IsUnder above → IsTrue (list_all is_below (option_to_list (leaf_below stmts forest b above steps)))
    leafs-below above [] under = refl
    leafs-below above (step ∷ []) under =
        elim (child_named stmts forest b true above step) as (λ f. child_named stmts forest b true above step ≡ f → IsTrue (list_all is_below (option_to_list f))) [
          | None ↦ λ e. refl
          | Some n ↦ λ e. both (is_below n) true (leaf-below above under n (child-is stmts forest b true above step n e)) refl
        ] refl
    leafs-below above (step ∷ next ∷ steps) under =
        elim (child_named stmts forest b false above step) as (λ f. child_named stmts forest b false above step ≡ f
        → IsTrue (list_all is_below (option_to_list (option_and_then (λ n. leaf_below stmts forest b n (next ∷ steps)) (unless_list stmts forest f))))) [
          | None ↦ λ e. refl
          | Some n ↦ λ e. elim (cases_Bool (is_list_at stmts forest n)) [
            | inl t ↦ rw t refl
            | inr other ↦ rw other (leafs-below n (next ∷ steps) (node-under above under n (child-is stmts forest b false above step n e) other))
          ]
        ] refl

    given-below : (f : List ℕ → Option ℕ) (test : ℕ → Bool) → ((word : List ℕ) → IsTrue (list_all test (option_to_list (f word)))) → (words : List (List ℕ)) → IsTrue (list_all test (given (map f words)))
    given-below f test each [] = refl
    given-below f test each (word ∷ words) = all-joined test (option_to_list (f word)) (given (map f words)) (each word) (given-below f test each words)

    uniques-in : IsUnder k → (subs : List Stmt) → IsTrue (list_all (list_all is_below) (flat_map (uniques_in stmts forest k b) subs))
    uniques-in under [] = refl
    uniques-in under (sub ∷ subs) = elim (cases_Bool (is_named word.Unique sub)) [
      | inl t ↦
          rw t (both (list_all is_below (given (uniques_named stmts forest k b (argument_of sub)))) (list_all (list_all is_below) (flat_map (uniques_in stmts forest k b) subs))
          (given-below (unique_leaf stmts forest k b) is_below (λ word. leafs-below k (steps_of word) under) (words_of (argument_of sub))) (uniques-in under subs))
      | inr f ↦ rw f (uniques-in under subs)
    ]

    uniques-below : slice_get forest k ≡ Some b → IsTrue (list_all (list_all is_below) (uniques_of stmts forest k b))
    uniques-below at = elim (cases_Bool (is_list (nodes.kind_of stmts b))) [
      | inl t ↦
          rw t (uniques-in (here-one (table_of stmts forest) parents-before is_list (length (infos_from stmts forest 0 forest)) k (there k b at) (kind-got is_list k b at ∙ t)) (block_of (own_stmt stmts b)))
      | inr f ↦ rw f refl
    ]

    -- ---- keys

    abbrev pub is_inside : ℕ → Bool
    is_inside leaf = is_kind is_leaf (table_of stmts forest) leaf && is_same (parent_of (table_of stmts forest) leaf) (Some k)

    key-inside : (name : List ℕ) → IsTrue (list_all is_inside (option_to_list (key_leaf stmts forest k b name)))
    key-inside name = elim (child_named stmts forest b true k name) as (λ f. child_named stmts forest b true k name ≡ f → IsTrue (list_all is_inside (option_to_list f))) [
      | None ↦ λ e. refl
      | Some n ↦ λ e.
          let child = child-is stmts forest b true k name n e in
          let leaf : is_kind is_leaf (table_of stmts forest) n ≡ true = kind-got is_leaf n child.branch child.got ∙ child.kind in
          let up : parent_of (table_of stmts forest) n ≡ Some k = parent-got n child.branch child.got ∙ child.parent in
          both (is_inside n) true (both (is_kind is_leaf (table_of stmts forest) n) (is_same (parent_of (table_of stmts forest) n) (Some k)) leaf (subst (λ (o : Option ℕ). IsTrue (is_same o (Some k))) (sym up) (same-itself k))) refl
    ] refl

    keys-in : (subs : List Stmt) → IsTrue (list_all is_inside (flat_map (keys_in stmts forest k b) subs))
    keys-in [] = refl
    keys-in (sub ∷ subs) = elim (cases_Bool (is_named word.Key sub)) [
      | inl t ↦ rw t (all-joined is_inside (given (keys_named stmts forest k b (argument_of sub))) (flat_map (keys_in stmts forest k b) subs) (given-below (key_leaf stmts forest k b) is_inside key-inside (words_of (argument_of sub))) (keys-in subs))
      | inr f ↦ rw f (keys-in subs)
    ]

    keys-inside : IsTrue (list_all is_inside (keys_of stmts forest k b))
    keys-inside = elim (cases_Bool (is_list (nodes.kind_of stmts b))) [
      | inl t ↦ rw t (keys-in (block_of (own_stmt stmts b)))
      | inr f ↦ rw f refl
    ]

middle-got : {X : Type 0} (done rest : List X) (x : X) (k : ℕ) → k ≡ length done → slice_get (done ++ x ∷ rest) k ≡ Some x
middle-got [] rest x k e = let none : k ≡ 0 = omega arith in rw none refl
middle-got (y ∷ done) rest x zero e = absurd (omega arith)
middle-got (y ∷ done) rest x (suc k) e = middle-got done rest x k (omega arith)

pub uniques-are-below-on : (stmts : List Stmt) (nodes : List TreeNode) (table : SchemaTable) → IsBuiltOn stmts nodes table → AreGrown stmts nodes
    → IsTrue (all_from (has_its_uniques table) 0 table.nodes)
uniques-are-below-on stmts nodes table built grown =
    let forest = forest_by stmts nodes in
    subst (λ (t : SchemaTable). IsTrue (all_from (has_its_uniques t) 0 t.nodes)) built.is (infos-numbered stmts forest (has_its_uniques (table_of stmts forest)) (λ done rest k b count is.
    uniques-below stmts forest (forest-placed stmts nodes grown) k b (ap (λ xs. slice_get xs k) is ∙ middle-got done rest b k count)) [] forest 0 refl refl)

pub uniques_are_below : UniquesAreBelow
uniques_are_below stmts table e = uniques-are-below-on stmts (nodes_of stmts) table (built_on stmts table e) (built-grown stmts)

pub keys-are-inside-on : (stmts : List Stmt) (nodes : List TreeNode) (table : SchemaTable) → IsBuiltOn stmts nodes table → AreGrown stmts nodes
    → IsTrue (all_from (λ n (node : NodeInfo). list_all (λ leaf. is_kind is_leaf table leaf && is_same (parent_of table leaf) (Some n)) node.keys) 0 table.nodes)
keys-are-inside-on stmts nodes table built grown =
    let forest = forest_by stmts nodes in
    subst (λ (t : SchemaTable). IsTrue (all_from (λ n (node : NodeInfo). list_all (λ leaf. is_kind is_leaf t leaf && is_same (parent_of t leaf) (Some n)) node.keys) 0 t.nodes)) built.is
    (infos-numbered stmts forest (λ n (node : NodeInfo). list_all (λ leaf. is_kind is_leaf (table_of stmts forest) leaf && is_same (parent_of (table_of stmts forest) leaf) (Some n)) node.keys) (λ done rest k b count is.
    keys-inside stmts forest (forest-placed stmts nodes grown) k b) [] forest 0 refl refl)

pub keys_are_inside : KeysAreInside
keys_are_inside stmts table e = keys-are-inside-on stmts (nodes_of stmts) table (built_on stmts table e) (built-grown stmts)
