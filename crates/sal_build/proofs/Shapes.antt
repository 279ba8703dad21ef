-- Properties of each node of the tree, from one to the next.
use Rattle.std.proofs.Common.{◌≡◌, ℕ, zero, suc, ◌+◌, ◌<◌, ◌≤◌, Bool, true, nat_lt, IsTrue, List, [], ◌∷◌, ◌++◌, fold, map, length, Option, Some, None, refl, sym, ap, ◌∙◌, subst, inl, inr, arith, length-append}
use Rattle.std.specs.Prelude.{find}
use Rattle.std.specs.List.{list_all, flat_map}
use Rattle.std.specs.Option.{option_map_or}
use Rattle.std.proofs.lemmas.Bool.{cases_Bool}
use Rattle.std.proofs.lemmas.Bool.Decides.{nat_tests}
use Rattle.sal_module.specs.declared.keyword.Keyword.{Keyword}
use Rattle.sal_module.specs.declared.keyword.Keyword.TheVariants.{Choice, Case, Rpc, Input, Output}
use Rattle.sal_grouping.proofs.Parts.{TreeNode, TreeRow}
use Rattle.sal_grouping.specs.declared.forest.Implied.{Implied}
use Rattle.sal_grouping.specs.declared.forest.Implied.TheVariants as implied
use Rattle.sal_grouping.specs.Growth.{Seed, is_node, used_by, nodes_at, nodes_within, nodes_in, plain, in_choice, param_or, param, seeds_in, below_row, below, node_of, grow}
use Rattle.sal_grouping.specs.Frames.{with_seed}
use Rattle.sal_grouping.specs.Rows.{inside, keyword_at, is_keyword}
use Rattle.sal_schema.specs.Table.{all_from}
use Rattle.sal_schema.proofs.Conjuncts.{and_first, and_second}
use Rattle.sal_build.proofs.Quiet.{both}
use Rattle.sal_build.proofs.Entries.{wrong}

-- ---- growth

pub grow-zero : (rows : List TreeRow) (named : List (Option ℕ)) (owner : ℕ) (parent : Option ℕ) (forest : List TreeNode) (seeds : List Seed) → grow 0 rows named owner parent forest seeds ≡ forest
unfolding grow
grow-zero rows named owner parent forest seeds = refl

pub grow-suc : (n : ℕ) (rows : List TreeRow) (named : List (Option ℕ)) (owner : ℕ) (parent : Option ℕ) (forest : List TreeNode) (seeds : List Seed)
    → grow (suc n) rows named owner parent forest seeds ≡ fold (with_seed n rows named owner parent) forest seeds
unfolding grow
grow-suc n rows named owner parent forest seeds = refl

-- ---- lists

pub all-joined : {X : Type 0} (test : X → Bool) (xs ys : List X) → IsTrue (list_all test xs) → IsTrue (list_all test ys) → IsTrue (list_all test (xs ++ ys))
all-joined test [] ys h k = k
all-joined test (x ∷ xs) ys h k = both (test x) (list_all test (xs ++ ys)) (and_first (test x) (list_all test xs) h) (all-joined test xs ys (and_second (test x) (list_all test xs) h) k)

pub all-flat : {X Y : Type 0} (test : Y → Bool) (f : X → List Y) → ((x : X) → IsTrue (list_all test (f x))) → (xs : List X) → IsTrue (list_all test (flat_map f xs))
all-flat test f each [] = refl
all-flat test f each (x ∷ xs) = all-joined test (f x) (flat_map f xs) (each x) (all-flat test f each xs)

pub all-found : {X : Type 0} (test : X → Bool) (p : X → Bool) (xs : List X) (x : X) → find p xs ≡ Some x → p x ≡ true
all-found test p [] x e = cc
all-found test p (y ∷ xs) x e = elim (cases_Bool (p y)) [
  | inl t ↦ (let here : Some y ≡ Some x = rw t at e in let is : y ≡ x = cc in ap p (sym is) ∙ t)
  | inr f ↦ all-found test p xs x (rw f at e)
]

pub from-last : {X : Type 0} (test : ℕ → X → Bool) (i : ℕ) (xs : List X) (x : X) → IsTrue (all_from test i xs) → IsTrue (test (i + length xs) x) → IsTrue (all_from test i (xs ++ x ∷ []))
from-last test i [] x h k = let here : i + 0 ≡ i = omega arith in both (test i x) true (rw here at k) refl
from-last test i (y ∷ xs) x h k =
    let there : i + length (y ∷ xs) ≡ i + 1 + length xs = omega arith in
    both (test i y) (all_from test (i + 1) (xs ++ x ∷ [])) (and_first (test i y) (all_from test (i + 1) xs) h)
    (from-last test (i + 1) xs x (and_second (test i y) (all_from test (i + 1) xs) h) (subst (λ n. IsTrue (test n x)) there k))

-- ---- statements that make nodes

-- a node by itself, or what is given to an RPC or comes back
abbrev pub is_shape : Option Keyword → Bool
is_shape (Some Input) = true
is_shape (Some Output) = true
is_shape keyword = is_node keyword

shape-node : (keyword : Option Keyword) → IsTrue (is_node keyword) → IsTrue (is_shape keyword)
shape-node (Some Input) h = refl
shape-node (Some Output) h = refl
shape-node keyword h = h

input-shape : (keyword : Option Keyword) → is_keyword Input keyword ≡ true → IsTrue (is_shape keyword)
input-shape None h = h
input-shape (Some Input) h = refl
input-shape keyword h = absurd (wrong h)

output-shape : (keyword : Option Keyword) → is_keyword Output keyword ≡ true → IsTrue (is_shape keyword)
output-shape None h = h
output-shape (Some Output) h = refl
output-shape keyword h = absurd (wrong h)

-- an implied case has one node
abbrev pub is_seed : Option Implied → Option Keyword → Bool
is_seed (Some implied.Case) keyword = is_node keyword
is_seed side keyword = is_shape keyword

abbrev pub fits : List TreeRow → Seed → Bool
fits rows seed = is_seed seed.1 (keyword_at rows seed.0)

module _ (rows : List TreeRow) (named : List (Option ℕ)) where
  nodes-at : (within : ℕ → List ℕ) → ((b : ℕ) → IsTrue (list_all (λ k. is_node (keyword_at rows k)) (within b))) → (k : ℕ) → IsTrue (list_all (λ k. is_node (keyword_at rows k)) (nodes_at within rows named k))
  nodes-at within each k = elim (cases_Bool (is_node (keyword_at rows k))) [
    | inl t ↦ rw t (rw t refl)
    | inr f ↦ rw f (all-flat (λ k. is_node (keyword_at rows k)) within each (used_by named k))
  ]

  nodes-within : (n b : ℕ) → IsTrue (list_all (λ k. is_node (keyword_at rows k)) (nodes_within n rows named b))
  unfolding nodes_within
  nodes-within zero b = refl
  nodes-within (suc n) b = all-flat (λ k. is_node (keyword_at rows k)) (nodes_at (nodes_within n rows named) rows named) (nodes-at (nodes_within n rows named) (nodes-within n)) (inside rows b)

  nodes-fit : (to : ℕ → Seed) → ((k : ℕ) → IsTrue (is_node (keyword_at rows k)) → IsTrue (fits rows (to k))) → (ks : List ℕ) → IsTrue (list_all (λ k. is_node (keyword_at rows k)) ks) → IsTrue (list_all (fits rows) (map to ks))
  nodes-fit to each [] h = refl
  nodes-fit to each (k ∷ ks) h =
      let node : IsTrue (is_node (keyword_at rows k)) = and_first (is_node (keyword_at rows k)) (list_all (λ k. is_node (keyword_at rows k)) ks) h in
      both (fits rows (to k)) (list_all (fits rows) (map to ks)) (each k node) (nodes-fit to each ks (and_second (is_node (keyword_at rows k)) (list_all (λ k. is_node (keyword_at rows k)) ks) h))

  plain-fits : (k : ℕ) → IsTrue (is_node (keyword_at rows k)) → IsTrue (fits rows (plain k))
  plain-fits k h = shape-node (keyword_at rows k) h

  in-choice : (k : ℕ) → IsTrue (is_node (keyword_at rows k)) → IsTrue (fits rows (in_choice rows k))
  in-choice k h = elim (cases_Bool (is_keyword Case (keyword_at rows k))) [ inl t ↦ rw t (shape-node (keyword_at rows k) h) | inr f ↦ rw f h ]

  pub seeds-fit : (keyword : Option Keyword) (b : ℕ) → IsTrue (list_all (fits rows) (seeds_in rows named keyword b))
  seeds-fit (Some Choice) b = nodes-fit (in_choice rows) in-choice (nodes_in rows named b) (nodes-within (length rows) b)
  seeds-fit keyword b = nodes-fit plain plain-fits (nodes_in rows named b) (nodes-within (length rows) b)

  param-fits : (rpc : ℕ) (side : Implied) (keyword : Keyword) → ((k : Option Keyword) → is_keyword keyword k ≡ true → IsTrue (is_shape k)) → IsTrue (is_seed (Some side) (keyword_at rows rpc))
      → IsTrue (fits rows (param rows rpc keyword side))
  param-fits rpc side keyword shows h =
      let p : ℕ → Bool = λ k. is_keyword keyword (keyword_at rows k) in
      elim (find p (inside rows rpc)) as (λ f. find p (inside rows rpc) ≡ f → IsTrue (fits rows (param_or rpc side f))) [
        | None ↦ λ e. h
        | Some k ↦ λ e. shows (keyword_at rows k) (all-found p p (inside rows rpc) k e)
      ] refl

  below-row : (keyword : Option Keyword) (k : ℕ) → IsTrue (is_shape (keyword_at rows k)) → IsTrue (list_all (fits rows) (below_row rows named keyword k))
  below-row (Some Rpc) k h =
      both (fits rows (param rows k Input implied.Input)) _ (param-fits k implied.Input Input input-shape h)
      (both (fits rows (param rows k Output implied.Output)) true (param-fits k implied.Output Output output-shape h) refl)
  below-row keyword k h = seeds-fit keyword k

  pub below-fits : (seed : Seed) → IsTrue (fits rows seed) → IsTrue (list_all (fits rows) (below rows named seed))
  below-fits (k, None) h = below-row (keyword_at rows k) k h
  below-fits (k, Some implied.Case) h = both (fits rows (plain k)) true (plain-fits k h) refl
  below-fits (k, Some other) h = refl

-- ---- growth

-- the number of the parent is smaller
abbrev pub is_before : ℕ → Option ℕ → Bool
is_before k parent = option_map_or (λ p. nat_lt p k) parent true

pub before-more : (m k : ℕ) (parent : Option ℕ) → m ≤ k → IsTrue (is_before m parent) → IsTrue (is_before k parent)
before-more m k None less h = refl
before-more m k (Some p) less h = grind (arith, nat_tests)

before-last : (k n : ℕ) → k < n → IsTrue (is_before n (Some k))
before-last k n h = grind (arith, nat_tests)

-- A test of nodes that passes each node with a parent before it and a statement that makes a node.
module _ (test : ℕ → TreeNode → Bool) (rows : List TreeRow) (named : List (Option ℕ)) (owner : ℕ)
    (each : (k : ℕ) (parent : Option ℕ) (seed : Seed) → IsTrue (is_before k parent) → IsTrue (fits rows seed) → IsTrue (test k (node_of owner parent seed))) where
  fold-good : (step : List TreeNode → Seed → List TreeNode) (parent : Option ℕ)
      → ((f : List TreeNode) (seed : Seed) → IsTrue (is_before (length f) parent) → IsTrue (fits rows seed) → IsTrue (all_from test 0 f) → IsTrue (all_from test 0 (step f seed)) × (length f ≤ length (step f seed)))
      → (forest : List TreeNode) (seeds : List Seed) → IsTrue (is_before (length forest) parent) → IsTrue (list_all (fits rows) seeds) → IsTrue (all_from test 0 forest)
      → IsTrue (all_from test 0 (fold step forest seeds)) × (length forest ≤ length (fold step forest seeds))
  fold-good step parent one forest [] before ok h = (h, omega arith)
  fold-good step parent one forest (seed ∷ seeds) before ok h =
      let (here, more) = one forest seed before (and_first (fits rows seed) (list_all (fits rows) seeds) ok) h in
      let (rest, longer) = fold-good step parent one (step forest seed) seeds (before-more (length forest) (length (step forest seed)) parent more before) (and_second (fits rows seed) (list_all (fits rows) seeds) ok) here in
      (rest, omega arith)

  pub grow-good : (n : ℕ) (parent : Option ℕ) (forest : List TreeNode) (seeds : List Seed) → IsTrue (is_before (length forest) parent) → IsTrue (list_all (fits rows) seeds) → IsTrue (all_from test 0 forest)
      → IsTrue (all_from test 0 (grow n rows named owner parent forest seeds)) × (length forest ≤ length (grow n rows named owner parent forest seeds))
  grow-good zero parent forest seeds before ok h = rw (grow-zero rows named owner parent forest seeds) (h, omega arith)
  grow-good (suc n) parent forest seeds before ok h =
      rw (grow-suc n rows named owner parent forest seeds) (fold-good (with_seed n rows named owner parent) parent (λ f seed early fit good.
      let count = length-append f (node_of owner parent seed ∷ []) in
      let here = from-last test 0 f (node_of owner parent seed) good (each (0 + length f) parent seed (before-more (length f) (0 + length f) parent (omega arith) early) fit) in
      let (rest, longer) = grow-good n (Some (length f)) (f ++ node_of owner parent seed ∷ []) (below rows named seed) (before-last (length f) (length (f ++ node_of owner parent seed ∷ [])) (omega arith)) (below-fits rows named seed fit) here in
      (rest, omega arith)) forest seeds before ok h)
