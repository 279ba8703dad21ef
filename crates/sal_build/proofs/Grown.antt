-- Properties of each node of the whole tree, after the augments.
use Rattle.std.proofs.Common.{◌≡◌, ℕ, zero, suc, ◌+◌, ◌-◌, ◌*◌, ◌<◌, ◌≤◌, Bool, true, ◌==◌, nat_lt, IsTrue, List, [], ◌∷◌, fold, length, Option, Some, None, refl, ap, subst, inl, inr, arith}
use Rattle.std.specs.Prelude.{option_and_then, is_none}
use Rattle.std.specs.List.{list_all, slice_get, position_from, enumerate_from}
use Rattle.std.proofs.lemmas.Bool.{cases_Bool}
use Rattle.std.proofs.lemmas.Bool.Decides.{nat_tests}
use Rattle.sal_stmt.specs.declared.stmt.Stmt.{Stmt}
use Rattle.sal_module.specs.Statements.{subs_of}
use Rattle.sal_module.specs.declared.keyword.Keyword.{Keyword}
use Rattle.sal_grouping.proofs.Parts.{TreeNode, TreeRow}
use Rattle.sal_grouping.specs.Augments.{Progress, kind_of, can_hold, has_nodes, is_child, child_of, follow, carried_to, carried_at, carried, after_try, tried, round, rounds, augments_of}
use Rattle.sal_grouping.specs.Expand.{built}
use Rattle.sal_grouping.specs.Groupings.{Step, path_of, named_of}
use Rattle.sal_grouping.specs.Growth.{Seed, node_of, grown, seeds_in, trees_until, trees_of}
use Rattle.sal_grouping.specs.Rows.{part_of, row_of, with_row, with_rows, rows_of, top_of}
use Rattle.sal_grouping.specs.Versions.{trees_from, new_augments, nodes_on}
use Rattle.sal_schema.specs.Table.{all_from}
use Rattle.sal_schema.proofs.Conjuncts.{and_first, and_second}
use Rattle.sal_build.proofs.Quiet.{both}
use Rattle.sal_build.proofs.Shapes.{is_before, fits, grow-good, seeds-fit, all-joined}

-- ---- rows are of modules that are there

abbrev pub is_of_module : ℕ → TreeRow → Bool
is_of_module count row = nat_lt row.module count

module _ (count m : ℕ) (h : m < count) where
  one-row : (around : Option ℕ) (rows : List TreeRow) (stmt : Stmt) (keyword : Option Keyword) → IsTrue (list_all (is_of_module count) rows) → IsTrue (list_all (is_of_module count) (with_row m around rows stmt keyword))
  one-row around rows stmt None good = good
  one-row around rows stmt (Some keyword) good = let inside : IsTrue (nat_lt m count) = grind (arith, nat_tests) in all-joined (is_of_module count) rows (row_of m around stmt keyword ∷ []) good (both (nat_lt m count) true inside refl)

  fold-rows : (step : List TreeRow → Stmt → List TreeRow) → ((rows : List TreeRow) (stmt : Stmt) → IsTrue (list_all (is_of_module count) rows) → IsTrue (list_all (is_of_module count) (step rows stmt)))
      → (rows : List TreeRow) (subs : List Stmt) → IsTrue (list_all (is_of_module count) rows) → IsTrue (list_all (is_of_module count) (fold step rows subs))
  fold-rows step each rows [] good = good
  fold-rows step each rows (stmt ∷ subs) good = fold-rows step each (step rows stmt) subs (each rows stmt good)

  more-rows : (levels : ℕ) (around : Option ℕ) (rows : List TreeRow) (stmt : Stmt) → IsTrue (list_all (is_of_module count) rows) → IsTrue (list_all (is_of_module count) (with_rows levels m around rows stmt))
  unfolding with_rows
  more-rows zero around rows stmt good = one-row around rows stmt (part_of stmt) good
  more-rows (suc levels) around rows stmt good = elim (cases_Bool (is_none (part_of stmt))) [
    | inl none ↦ rw none good
    | inr some ↦ rw some (fold-rows (λ below sub. with_rows levels m (Some (length rows)) below sub) (λ below sub. more-rows levels (Some (length rows)) below sub) (with_row m around rows stmt (part_of stmt)) (subs_of stmt) (one-row around rows stmt (part_of stmt) good))
  ]

rows-from : (count n : ℕ) (stmts : List Stmt) (rows : List TreeRow) → n + length stmts ≤ count → IsTrue (list_all (is_of_module count) rows)
    → IsTrue (list_all (is_of_module count) (fold (λ rows (e : ℕ × Stmt). with_rows 64 e.0 None rows e.1) rows (enumerate_from n stmts)))
rows-from count n [] rows h good = good
rows-from count n (stmt ∷ stmts) rows h good = rows-from count (n + 1) stmts (with_rows 64 n None rows stmt) (omega arith) (more-rows count n (omega arith) 64 None rows stmt good)

pub rows-of-modules : (stmts : List Stmt) → IsTrue (list_all (is_of_module (length stmts)) (rows_of stmts))
rows-of-modules stmts = rows-from (length stmts) 0 stmts [] (omega arith) refl

pub at-row : (count k : ℕ) (rows : List TreeRow) (row : TreeRow) → IsTrue (list_all (is_of_module count) rows) → slice_get rows k ≡ Some row → row.module < count
at-row count k [] row h e = cc
at-row count zero (r ∷ rows) row h e =
    let is : r ≡ row = cc in
    let inside = and_first (is_of_module count r) (list_all (is_of_module count) rows) h in
    let same = ap (λ (r : TreeRow). r.module) is in grind (arith, nat_tests)
at-row count (suc k) (r ∷ rows) row h e = at-row count k rows row (and_second (is_of_module count r) (list_all (is_of_module count) rows) h) e

-- ---- the ends of paths

pub position-below : {X : Type 0} (p : X → Bool) (n : ℕ) (xs : List X) (j : ℕ) → position_from p n xs ≡ Some j → j < n + length xs
position-below p n [] j e = cc
position-below p n (x ∷ xs) j e = elim (cases_Bool (p x)) [
  | inl t ↦ (let h = rw t at e in let is : n ≡ j = cc in omega arith)
  | inr f ↦ (let h = rw f at e in omega (arith, position-below p (n + 1) xs j h))
]

-- a path that leads anywhere ends at a node that is there
follow-below : (rows : List TreeRow) (forest : List TreeNode) (from : Option ℕ) (path : List Step) (target : ℕ) → IsTrue (is_before (length forest) from) → follow rows forest from path ≡ Some target → target < length forest
follow-below rows forest None [] target h e = cc
follow-below rows forest (Some k) [] target h e = let is : k ≡ target = cc in grind (arith, nat_tests)
follow-below rows forest from (step ∷ path) target h e =
    elim (child_of rows forest from step) as (λ c. child_of rows forest from step ≡ c → option_and_then (λ k. follow rows forest (Some k) path) c ≡ Some target → target < length forest) [
      | None ↦ λ at f. let no : ◌≡◌ {A = Option ℕ} None (Some target) = f in absurd (nothing target no)
      | Some k ↦ λ at f.
          let below = position-below (is_child rows from step) 0 forest k at in
          let early : IsTrue (is_before (length forest) (Some k)) = grind (arith, nat_tests) in
          follow-below rows forest (Some k) path target early f
    ] refl e
  where
    nothing : (target : ℕ) → ◌≡◌ {A = Option ℕ} None (Some target) → ⊥
    nothing target e = cc

-- ---- the tree

-- the test holds of each node that grows by these statements, at any number
abbrev pub HoldsOfGrown : List Stmt → (ℕ → TreeNode → Bool) → Type 0
HoldsOfGrown stmts test =
    (owner k : ℕ) (parent : Option ℕ) (seed : Seed) → owner < length stmts → IsTrue (is_before k parent) → IsTrue (fits (rows_of stmts) seed) → IsTrue (test k (node_of owner parent seed))

-- what holds of each that grows holds of these
abbrev pub AreGrown : List Stmt → List TreeNode → Type 0
AreGrown stmts nodes = (test : ℕ → TreeNode → Bool) → HoldsOfGrown stmts test → IsTrue (all_from test 0 nodes)

module _ (test : ℕ → TreeNode → Bool) (stmts : List Stmt)
    (each : (owner k : ℕ) (parent : Option ℕ) (seed : Seed) → owner < length stmts → IsTrue (is_before k parent) → IsTrue (fits (rows_of stmts) seed) → IsTrue (test k (node_of owner parent seed))) where
  abbrev rows : List TreeRow
  rows = rows_of stmts

  abbrev named : List (Option ℕ)
  named = named_of stmts (rows_of stmts)

  abbrev Good : List TreeNode → Type 0
  Good forest = IsTrue (all_from test 0 forest)

  grown-good : (owner : ℕ) (parent : Option ℕ) (forest : List TreeNode) (seeds : List Seed) → owner < length stmts → IsTrue (is_before (length forest) parent) → IsTrue (list_all (fits (rows_of stmts)) seeds)
      → Good forest → Good (grown (rows_of stmts) (named_of stmts (rows_of stmts)) owner parent forest seeds)
  grown-good owner parent forest seeds h before ok good =
      (grow-good test (rows_of stmts) (named_of stmts (rows_of stmts)) owner (λ k parent seed. each owner k parent seed h) (2 * length (rows_of stmts)) parent forest seeds before ok good).0

  trees-good : (m : ℕ) → m ≤ length stmts → Good (trees_until m stmts (rows_of stmts) (named_of stmts (rows_of stmts)))
  unfolding trees_until
  trees-good zero h = refl
  trees-good (suc m) h = grown-good m None (trees_until m stmts rows named) (seeds_in rows named None (top_of stmts m)) (omega arith) refl (seeds-fit rows named None (top_of stmts m)) (trees-good m (omega arith))

  carried-to : (owner k : ℕ) (forest : List TreeNode) (target : ℕ) (kind : Option Keyword) (f : List TreeNode) → owner < length stmts → target < length forest → Good forest
      → carried_to rows named owner k forest target kind ≡ Some f → Good f
  carried-to owner k forest target kind f h below good e = elim (cases_Bool (can_hold rows kind k (has_nodes rows named k))) [
    | inl holds ↦
        (let grew = rw holds at e in
        let is : grown rows named owner (Some target) forest (seeds_in rows named kind k) ≡ f = cc in
        let early : IsTrue (is_before (length forest) (Some target)) = grind (arith, nat_tests) in
        subst Good is (grown-good owner (Some target) forest (seeds_in rows named kind k) h early (seeds-fit rows named kind k) good))
    | inr fails ↦ let none = rw fails at e in cc
  ]

  carried-at : (owner k : ℕ) (forest : List TreeNode) (target : Option ℕ) (f : List TreeNode) → owner < length stmts → ((t : ℕ) → target ≡ Some t → t < length forest) → Good forest
      → carried_at rows named owner k forest target ≡ Some f → Good f
  carried-at owner k forest None f h below good e = cc
  carried-at owner k forest (Some target) f h below good e = carried-to owner k forest target (option_and_then (kind_of rows) (slice_get forest target)) f h (below target refl) good e

  carried-good : (forest : List TreeNode) (k : ℕ) (row : Option TreeRow) (f : List TreeNode) → ((r : TreeRow) → row ≡ Some r → r.module < length stmts) → Good forest → carried stmts rows named forest k row ≡ Some f → Good f
  carried-good forest k None f inside good e = cc
  carried-good forest k (Some row) f inside good e =
      carried-at row.module k forest (follow rows forest None (path_of stmts row)) f (inside row refl) (λ t at. follow-below rows forest None (path_of stmts row) t refl at) good e

  after-good : (now : Progress) (k : ℕ) (c : Option (List TreeNode)) → Good now.0 → ((f : List TreeNode) → c ≡ Some f → Good f) → Good (after_try now k c).0
  after-good now k None good next = good
  after-good now k (Some f) good next = next f refl

  tried-good : (now : Progress) (k : ℕ) → Good now.0 → Good (tried stmts rows named now k).0
  tried-good now k good =
      after-good now k (carried stmts rows named now.0 k (slice_get rows k)) good (λ f e.
      carried-good now.0 k (slice_get rows k) f (λ r at. at-row (length stmts) k rows r (rows-of-modules stmts) at) good e)

  tries-good : (now : Progress) (ks : List ℕ) → Good now.0 → Good (fold (tried stmts rows named) now ks).0
  tries-good now [] good = good
  tries-good now (k ∷ ks) good = tries-good (tried stmts rows named now k) ks (tried-good now k good)

  rounds-good : (n : ℕ) (now : Progress) → Good now.0 → Good (rounds n stmts rows named now).0
  unfolding rounds
  rounds-good zero now good = good
  rounds-good (suc n) now good = elim (cases_Bool (length (round stmts rows named now).1 == length now.1)) [
    | inl holds ↦ rw holds (tries-good (now.0, []) now.1 good)
    | inr fails ↦ rw fails (rounds-good n (round stmts rows named now) (tries-good (now.0, []) now.1 good))
  ]

  pub built-good : Good (built stmts (rows_of stmts) (named_of stmts (rows_of stmts))).0
  built-good = rounds-good (length (augments_of rows)) (trees_of stmts rows named, augments_of rows) (trees-good (length stmts) (omega arith))

  -- ---- after the nodes of an older version

  from-good : (old : ℕ) (before : List TreeNode) → Good before → (n : ℕ) → old + n ≤ length stmts → Good (trees_from n stmts rows named old before)
  unfolding trees_from
  from-good old before good zero h = good
  from-good old before good (suc n) h =
      grown-good (old + n) None (trees_from n stmts rows named old before) (seeds_in rows named None (top_of stmts (old + n))) (omega arith) refl (seeds-fit rows named None (top_of stmts (old + n))) (from-good old before good n (omega arith))

  pub on-good : (old : ℕ) (before : List TreeNode) → old ≤ length stmts → Good before → Good (nodes_on stmts old before).0
  on-good old before h good =
      rounds-good (length (new_augments old rows)) (trees_from (length stmts - old) stmts rows named old before, new_augments old rows) (from-good old before good (length stmts - old) (omega arith))

pub built-grown : (stmts : List Stmt) → AreGrown stmts (built stmts (rows_of stmts) (named_of stmts (rows_of stmts))).0
built-grown stmts test h = built-good test stmts h
