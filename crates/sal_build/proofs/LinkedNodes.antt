-- The parents of nodes: each is below a node that can have it as child.
use Rattle.std.proofs.Common.{◌≡◌, ℕ, zero, suc, ◌+◌, ◌-◌, ◌*◌, ◌<◌, ◌≤◌, Bool, true, false, not, ◌&&◌, ◌==◌, nat_lt, IsTrue, List, [], ◌∷◌, ◌++◌, fold, map, length, Option, Some, None, refl, sym, ap, ◌∙◌, subst, inl, inr, arith, append_assoc, append-nil}
use Rattle.std.specs.Prelude.{◌||◌, find, option_and_then, option_map, is_some}
use Rattle.std.specs.List.{list_all, flat_map, slice_get, enumerate_from}
use Rattle.std.specs.Option.{option_map_or}
use Rattle.std.proofs.lemmas.Bool.{cases_Bool, or_left}
use Rattle.std.proofs.lemmas.Bool.Decides.{nat_tests}
use Rattle.sal_stmt.specs.declared.stmt.Stmt.{Stmt}
use Rattle.sal_module.specs.declared.keyword.Keyword.{Keyword}
use Rattle.sal_module.specs.declared.keyword.Keyword.TheVariants as word
use Rattle.sal_module.specs.Keywords.{same_keyword}
use Rattle.sal_module.specs.Profile.{module_faults}
use Rattle.sal_grouping.proofs.Parts.{TreeNode, TreeRow}
use Rattle.sal_grouping.specs.declared.forest.Implied.{Implied}
use Rattle.sal_grouping.specs.declared.forest.Implied.TheVariants as implied
use Rattle.sal_grouping.specs.Augments.{Progress, kind_of, kind_among, can_hold, holds_data, has_case, has_nodes, follow, carried_to, carried_at, carried, after_try, tried, round, rounds, augments_of}
use Rattle.sal_grouping.specs.Expand.{built}
use Rattle.sal_grouping.specs.Frames.{with_seed}
use Rattle.sal_grouping.specs.Groupings.{named_of, path_of}
use Rattle.sal_grouping.specs.Growth.{Seed, is_node, used_by, nodes_at, nodes_within, nodes_in, plain, in_choice, param_or, param, seeds_in, below_row, below, node_of, grow, grown, trees_until, trees_of}
use Rattle.sal_grouping.specs.Rows.{is_inside, inside, keyword_at, is_keyword, top_of, rows_of}
use Rattle.sal_grouping.specs.Versions.{trees_from, new_augments, nodes_on}
use Rattle.sal_schema.specs.Valid.{agree}
use Rattle.sal_schema.proofs.Conjuncts.{and_first, and_second}
use Rattle.sal_build.proofs.Distinct.{false-is}
use Rattle.sal_build.proofs.HeldRows.{AreHeld, is_held, is_call, is_leafy, adds, can_stand, got-front, got-last, top-keyword}
use Rattle.sal_build.proofs.LoneCalls.{got-all, flat-all, all-map-to, stands-in, inside-all, used-grouping}
use Rattle.sal_build.proofs.Quiet.{both}
use Rattle.sal_build.proofs.Shapes.{fits, is_shape, all-joined, all-found, grow-zero, grow-suc}
use Rattle.sal_build.proofs.Entries.{wrong}

-- ---- which nodes can be below which

-- what is given to an RPC or comes back
abbrev pub is_param : Option Keyword → Bool
is_param (Some word.Input) = true
is_param (Some word.Output) = true
is_param keyword = false

-- Leafs have nothing below them; the children of a choice are cases, those of an RPC its parameters, and neither has another parent.
abbrev pub can_be_under : Option Keyword → Option Keyword → Bool
can_be_under parent child =
    (not (is_leafy parent) && agree (is_keyword word.Case child) (is_keyword word.Choice parent)) && agree (is_param child) (is_keyword word.Rpc parent)

abbrev pub can_be_on_top : Option Keyword → Bool
can_be_on_top child = not (is_keyword word.Case child) && not (is_param child)

-- in a block of a statement
abbrev fits_block : Option Keyword → Option Keyword → Bool
fits_block block child = (not (is_keyword word.Case child) || (is_keyword word.Choice block || is_keyword word.Augment block)) && not (is_leafy block)

node-adds : (keyword : Option Keyword) → IsTrue (is_node keyword) → IsTrue (adds keyword)
node-adds (Some word.Uses) h = refl
node-adds None h = h
node-adds (Some keyword) h = h

uses-adds : (keyword : Keyword) → same_keyword keyword word.Uses ≡ true → IsTrue (adds (Some keyword))
uses-adds word.Uses e = refl
uses-adds keyword e = absurd (wrong e)

node-param : (keyword : Option Keyword) → IsTrue (is_node keyword) → is_param keyword ≡ false
node-param None h = refl
node-param (Some word.Input) h = absurd (wrong h)
node-param (Some word.Output) h = absurd (wrong h)
node-param (Some keyword) h = refl

input-under : (keyword : Option Keyword) → is_keyword word.Input keyword ≡ true → IsTrue (can_be_under (Some word.Rpc) keyword)
input-under None e = absurd (wrong e)
input-under (Some word.Input) e = refl
input-under (Some keyword) e = absurd (wrong e)

output-under : (keyword : Option Keyword) → is_keyword word.Output keyword ≡ true → IsTrue (can_be_under (Some word.Rpc) keyword)
output-under None e = absurd (wrong e)
output-under (Some word.Output) e = refl
output-under (Some keyword) e = absurd (wrong e)

case-under : (keyword : Option Keyword) → is_keyword word.Case keyword ≡ true → IsTrue (can_be_under (Some word.Choice) keyword)
case-under None e = absurd (wrong e)
case-under (Some word.Case) e = refl
case-under (Some keyword) e = absurd (wrong e)

grouping-fits : (block child : Option Keyword) → is_keyword word.Grouping block ≡ true → IsTrue (fits_block block child) → IsTrue (not (is_keyword word.Case child))
grouping-fits None child e h = absurd (wrong e)
grouping-fits (Some word.Grouping) child e h = nothing-more (not (is_keyword word.Case child)) (and_first (not (is_keyword word.Case child) || false) true h)
  where
    nothing-more : (b : Bool) → IsTrue (b || false) → IsTrue b
    nothing-more true h = refl
    nothing-more false h = h
grouping-fits (Some keyword) child e h = absurd (wrong e)

-- a statement that is allowed in a block adds nodes only if it is not a leaf
no-leaf : (block child : Option Keyword) → IsTrue (adds child) → IsTrue (can_stand block child) → IsTrue (not (is_leafy block))
no-leaf block child adds_some h =
    let last = and_second ((not (is_keyword word.Case child) || (is_keyword word.Choice block || is_keyword word.Augment block)) && (not (is_call child) || is_keyword word.Module block)) (not (adds child) || not (is_leafy block)) h in
    let only : IsTrue (false || not (is_leafy block)) = rw adds_some at last in
    only

case-part : (block child : Option Keyword) → IsTrue (can_stand block child) → IsTrue (not (is_keyword word.Case child) || (is_keyword word.Choice block || is_keyword word.Augment block))
case-part block child h =
    let cases = not (is_keyword word.Case child) || (is_keyword word.Choice block || is_keyword word.Augment block) in
    let calls = not (is_call child) || is_keyword word.Module block in
    and_first cases calls (and_first (cases && calls) (not (adds child) || not (is_leafy block)) h)

-- below a node that is no choice and no RPC
plain-under : (parent child : Option Keyword) → is_keyword word.Choice parent ≡ false → is_keyword word.Rpc parent ≡ false → IsTrue (not (is_leafy parent)) → IsTrue (not (is_keyword word.Case child)) → is_param child ≡ false
    → IsTrue (can_be_under parent child)
plain-under parent child choice rpc leafy cases param =
    let a : IsTrue (agree (is_keyword word.Case child) (is_keyword word.Choice parent)) = rw choice (neither (is_keyword word.Case child) cases) in
    let b : IsTrue (agree (is_param child) (is_keyword word.Rpc parent)) = rw (param, rpc) refl in
    both (not (is_leafy parent) && agree (is_keyword word.Case child) (is_keyword word.Choice parent)) (agree (is_param child) (is_keyword word.Rpc parent)) (both (not (is_leafy parent)) (agree (is_keyword word.Case child) (is_keyword word.Choice parent)) leafy a) b
  where
    neither : (b : Bool) → IsTrue (not b) → IsTrue (agree b false)
    neither true h = h
    neither false h = refl

-- what a statement that makes a node is not
shape-other : (keyword : Option Keyword) → IsTrue (is_shape keyword) → is_keyword word.Augment keyword ≡ false
shape-other None h = refl
shape-other (Some word.Augment) h = absurd (wrong h)
shape-other (Some keyword) h = refl

-- where neither a choice nor an augment is the block, no case is in it
no-case : (block child : Option Keyword) → is_keyword word.Choice block ≡ false → is_keyword word.Augment block ≡ false → IsTrue (fits_block block child) → IsTrue (not (is_keyword word.Case child))
no-case block child choice augment h =
    let first = and_first (not (is_keyword word.Case child) || (is_keyword word.Choice block || is_keyword word.Augment block)) (not (is_leafy block)) h in
    let only : IsTrue (not (is_keyword word.Case child) || false) = rw (choice, augment) at first in
    nothing-more (not (is_keyword word.Case child)) only
  where
    nothing-more : (b : Bool) → IsTrue (b || false) → IsTrue b
    nothing-more true h = refl
    nothing-more false h = h

all-of : {X : Type 0} (a b : X → Bool) → ((x : X) → IsTrue (a x) → IsTrue (b x)) → (xs : List X) → IsTrue (list_all a xs) → IsTrue (list_all b xs)
all-of a b shows [] h = refl
all-of a b shows (x ∷ xs) h = both (b x) (list_all b xs) (shows x (and_first (a x) (list_all a xs) h)) (all-of a b shows xs (and_second (a x) (list_all a xs) h))

all-both : {X : Type 0} (a b : X → Bool) (xs : List X) → IsTrue (list_all a xs) → IsTrue (list_all b xs) → IsTrue (list_all (λ x. a x && b x) xs)
all-both a b [] h k = refl
all-both a b (x ∷ xs) h k =
    both (a x && b x) (list_all (λ x. a x && b x) xs) (both (a x) (b x) (and_first (a x) (list_all a xs) h) (and_first (b x) (list_all b xs) k)) (all-both a b xs (and_second (a x) (list_all a xs) h) (and_second (b x) (list_all b xs) k))

-- it is at the top level where that is allowed, or below a node that can have it as child
abbrev pub is_linked_in : List TreeRow → List TreeNode → TreeNode → Bool
is_linked_in rows forest node =
    option_map_or (λ p. option_map_or (λ (above : TreeNode). can_be_under (kind_of rows above) (kind_of rows node)) (slice_get forest p) false) node.parent (can_be_on_top (kind_of rows node))

module _ (stmts : List Stmt) (held : AreHeld (rows_of stmts)) where
  abbrev rows : List TreeRow
  rows = rows_of stmts

  abbrev named : List (Option ℕ)
  named = named_of stmts (rows_of stmts)

  abbrev word_of : ℕ → Option Keyword
  word_of k = keyword_at rows k

  -- ---- the nodes of a block

  -- a node that fits in the block
  abbrev is_in : ℕ → ℕ → Bool
  is_in b k = is_node (word_of k) && fits_block (word_of b) (word_of k)

  word-is : (j : ℕ) (row : TreeRow) → slice_get rows j ≡ Some row → word_of j ≡ Some row.keyword
  word-is j row at = ap (λ (o : Option TreeRow). option_map (λ (row : TreeRow). row.keyword) o) at

  stands : (b j : ℕ) (row : TreeRow) → slice_get rows j ≡ Some row → is_inside b row ≡ true → IsTrue (can_stand (word_of b) (word_of j))
  stands b j row at e = subst (λ (o : Option Keyword). IsTrue (can_stand (word_of b) o)) (sym (word-is j row at)) (stands-in stmts held b row e (got-all (is_held rows) rows j row held at))

  through : (b g k : ℕ) → is_keyword word.Grouping (word_of g) ≡ true → IsTrue (not (is_leafy (word_of b))) → IsTrue (is_in g k) → IsTrue (is_in b k)
  through b g k kind leafy h =
      let node = and_first (is_node (word_of k)) (fits_block (word_of g) (word_of k)) h in
      let cases = grouping-fits (word_of g) (word_of k) kind (and_second (is_node (word_of k)) (fits_block (word_of g) (word_of k)) h) in
      let block = not (is_keyword word.Case (word_of k)) || (is_keyword word.Choice (word_of b) || is_keyword word.Augment (word_of b)) in
      both (is_node (word_of k)) (fits_block (word_of b) (word_of k)) node
      (both block (not (is_leafy (word_of b))) (or_left (not (is_keyword word.Case (word_of k))) (is_keyword word.Choice (word_of b) || is_keyword word.Augment (word_of b)) cases) leafy)

  used-in : (n b j : ℕ) (row : TreeRow) → slice_get rows j ≡ Some row → is_inside b row ≡ true → ((g : ℕ) → IsTrue (list_all (is_in g) (nodes_within n rows named g)))
      → IsTrue (list_all (λ g. list_all (is_in b) (nodes_within n rows named g)) (used_by named j))
  used-in n b j row at e each =
      used-grouping stmts held j row (λ g. list_all (is_in b) (nodes_within n rows named g)) at (λ g uses kind.
      let leafy = no-leaf (word_of b) (word_of j) (subst (λ (o : Option Keyword). IsTrue (adds o)) (sym (word-is j row at)) (uses-adds row.keyword uses)) (stands b j row at e) in
      all-of (is_in g) (is_in b) (λ k h. through b g k kind leafy h) (nodes_within n rows named g) (each g))

  nodes-fit-in : (n b : ℕ) → IsTrue (list_all (is_in b) (nodes_within n rows named b))
  unfolding nodes_within
  nodes-fit-in zero b = refl
  nodes-fit-in (suc n) b =
      flat-all (is_in b) (nodes_at (nodes_within n rows named) rows named) (inside rows b)
      (inside-all stmts held b (λ k. list_all (is_in b) (nodes_at (nodes_within n rows named) rows named k)) (λ j row at e.
      elim (cases_Bool (is_node (word_of j))) [
        | inl t ↦
            let stand = stands b j row at e in
            let fit = both (not (is_keyword word.Case (word_of j)) || (is_keyword word.Choice (word_of b) || is_keyword word.Augment (word_of b))) (not (is_leafy (word_of b))) (case-part (word_of b) (word_of j) stand) (no-leaf (word_of b) (word_of j) (node-adds (word_of j) t) stand) in
            rw t (both (is_in b j) true (both (is_node (word_of j)) (fits_block (word_of b) (word_of j)) t fit) refl)
        | inr f ↦ rw f (flat-all (is_in b) (nodes_within n rows named) (used_by named j) (used-in n b j row at e (λ g. nodes-fit-in n g)))
      ]))

  -- ---- seeds

  abbrev kind : Seed → Option Keyword
  kind (k, side) = kind_among (word_of k) side

  -- no case is in an implied one
  abbrev is_right : Seed → Bool
  is_right (k, Some implied.Case) = not (is_keyword word.Case (word_of k))
  is_right (k, side) = true

  abbrev suits : Seed → Bool
  suits seed = fits rows seed && is_right seed

  abbrev suits_under : Option Keyword → Seed → Bool
  suits_under parent seed = suits seed && can_be_under parent (kind seed)

  plain-suits : (parent : Option Keyword) (k : ℕ) → IsTrue (is_node (word_of k)) → IsTrue (can_be_under parent (word_of k)) → IsTrue (suits_under parent (plain k))
  plain-suits parent k node h = both (suits (plain k)) (can_be_under parent (word_of k)) (both (fits rows (plain k)) true (node-shape (word_of k) node) refl) h
    where
      node-shape : (keyword : Option Keyword) → IsTrue (is_node keyword) → IsTrue (is_shape keyword)
      node-shape (Some word.Input) h = refl
      node-shape (Some word.Output) h = refl
      node-shape keyword h = h

  choice-suits : (k : ℕ) → IsTrue (is_node (word_of k)) → IsTrue (suits_under (Some word.Choice) (in_choice rows k))
  choice-suits k node = elim (cases_Bool (is_keyword word.Case (word_of k))) [
    | inl t ↦
        let is : plain k ≡ in_choice rows k = rw t refl in
        subst (λ (seed : Seed). IsTrue (suits_under (Some word.Choice) seed)) is (plain-suits (Some word.Choice) k node (case-under (word_of k) t))
    | inr f ↦
        let seed : Seed = (k, Some implied.Case) in
        let is : seed ≡ in_choice rows k = rw f refl in
        let other : IsTrue (not (is_keyword word.Case (word_of k))) = rw f refl in
        subst (λ (seed : Seed). IsTrue (suits_under (Some word.Choice) seed)) is (both (suits (k, Some implied.Case)) true (both (fits rows (k, Some implied.Case)) (not (is_keyword word.Case (word_of k))) node other) refl)
  ]

  -- the nodes of a block, below a node that is no choice and no RPC
  plain-all : (parent : Option Keyword) (ks : List ℕ) → is_keyword word.Choice parent ≡ false → is_keyword word.Rpc parent ≡ false → IsTrue (list_all (λ k. is_node (word_of k) && (not (is_leafy parent) && not (is_keyword word.Case (word_of k)))) ks)
      → IsTrue (list_all (suits_under parent) (map plain ks))
  plain-all parent ks choice rpc h =
      all-map-to plain (λ k. is_node (word_of k) && (not (is_leafy parent) && not (is_keyword word.Case (word_of k)))) (suits_under parent) (λ k one.
      let node = and_first (is_node (word_of k)) (not (is_leafy parent) && not (is_keyword word.Case (word_of k))) one in
      let rest = and_second (is_node (word_of k)) (not (is_leafy parent) && not (is_keyword word.Case (word_of k))) one in
      plain-suits parent k node
      (plain-under parent (word_of k) choice rpc (and_first (not (is_leafy parent)) (not (is_keyword word.Case (word_of k))) rest) (and_second (not (is_leafy parent)) (not (is_keyword word.Case (word_of k))) rest) (node-param (word_of k) node))) ks h

  choice-all : (ks : List ℕ) → IsTrue (list_all (λ k. is_node (word_of k)) ks) → IsTrue (list_all (suits_under (Some word.Choice)) (map (in_choice rows) ks))
  choice-all ks h = all-map-to (in_choice rows) (λ k. is_node (word_of k)) (suits_under (Some word.Choice)) (λ k node. choice-suits k node) ks h

  only-nodes : (b : ℕ) → IsTrue (list_all (λ k. is_node (word_of k)) (nodes_in rows named b))
  only-nodes b = all-of (is_in b) (λ k. is_node (word_of k)) (λ k h. and_first (is_node (word_of k)) (fits_block (word_of b) (word_of k)) h) (nodes_in rows named b) (nodes-fit-in (length rows) b)

  -- below a node of its own, but a choice and an RPC
  block-all : (k : ℕ) → IsTrue (is_shape (word_of k)) → is_keyword word.Choice (word_of k) ≡ false
      → IsTrue (list_all (λ j. is_node (word_of j) && (not (is_leafy (word_of k)) && not (is_keyword word.Case (word_of j)))) (nodes_in rows named k))
  block-all k shape choice =
      all-of (is_in k) (λ j. is_node (word_of j) && (not (is_leafy (word_of k)) && not (is_keyword word.Case (word_of j)))) (λ j h.
      let fit = and_second (is_node (word_of j)) (fits_block (word_of k) (word_of j)) h in
      let leafy = and_second (not (is_keyword word.Case (word_of j)) || (is_keyword word.Choice (word_of k) || is_keyword word.Augment (word_of k))) (not (is_leafy (word_of k))) fit in
      both (is_node (word_of j)) (not (is_leafy (word_of k)) && not (is_keyword word.Case (word_of j))) (and_first (is_node (word_of j)) (fits_block (word_of k) (word_of j)) h)
      (both (not (is_leafy (word_of k))) (not (is_keyword word.Case (word_of j))) leafy (no-case (word_of k) (word_of j) choice (shape-other (word_of k) shape) fit))) (nodes_in rows named k) (nodes-fit-in (length rows) k)

  param-suits : (rpc : ℕ) (side : Implied) (keyword : Keyword) → IsTrue (suits_under (Some word.Rpc) (rpc, Some side)) → ((k : Option Keyword) → is_keyword keyword k ≡ true → IsTrue (is_shape k) × IsTrue (can_be_under (Some word.Rpc) k))
      → IsTrue (suits_under (Some word.Rpc) (param rows rpc keyword side))
  param-suits rpc side keyword none shows =
      let p : ℕ → Bool = λ k. is_keyword keyword (word_of k) in
      elim (find p (inside rows rpc)) as (λ f. find p (inside rows rpc) ≡ f → IsTrue (suits_under (Some word.Rpc) (param_or rpc side f))) [
        | None ↦ λ e. none
        | Some k ↦ λ e.
            let (shape, under) = shows (word_of k) (all-found p p (inside rows rpc) k e) in
            both (suits (k, None)) (can_be_under (Some word.Rpc) (word_of k)) (both (fits rows (k, None)) true shape refl) under
      ] refl

  input-shows : (keyword : Option Keyword) → is_keyword word.Input keyword ≡ true → IsTrue (is_shape keyword) × IsTrue (can_be_under (Some word.Rpc) keyword)
  input-shows None e = absurd (wrong e)
  input-shows (Some word.Input) e = (refl, refl)
  input-shows (Some keyword) e = absurd (wrong e)

  output-shows : (keyword : Option Keyword) → is_keyword word.Output keyword ≡ true → IsTrue (is_shape keyword) × IsTrue (can_be_under (Some word.Rpc) keyword)
  output-shows None e = absurd (wrong e)
  output-shows (Some word.Output) e = (refl, refl)
  output-shows (Some keyword) e = absurd (wrong e)

  row-suits : (k : ℕ) (keyword : Option Keyword) → word_of k ≡ keyword → IsTrue (is_shape keyword) → IsTrue (list_all (suits_under keyword) (below_row rows named keyword k))
  row-suits k (Some word.Rpc) e shape =
      let implied_suits = λ (side : Implied) (h : IsTrue (can_be_under (Some word.Rpc) (kind_among (word_of k) (Some side)))) (fit : IsTrue (suits (k, Some side))). both (suits (k, Some side)) (can_be_under (Some word.Rpc) (kind_among (word_of k) (Some side))) fit h in
      let own : IsTrue (is_shape (word_of k)) = rw e refl in
      both (suits_under (Some word.Rpc) (param rows k word.Input implied.Input)) _ (param-suits k implied.Input word.Input (implied_suits implied.Input refl (both (is_shape (word_of k)) true own refl)) input-shows)
      (both (suits_under (Some word.Rpc) (param rows k word.Output implied.Output)) true (param-suits k implied.Output word.Output (implied_suits implied.Output refl (both (is_shape (word_of k)) true own refl)) output-shows) refl)
  row-suits k (Some word.Choice) e shape = choice-all (nodes_in rows named k) (only-nodes k)
  row-suits k keyword e shape =
      let block = subst (λ (o : Option Keyword). IsTrue (list_all (λ j. is_node (word_of j) && (not (is_leafy o) && not (is_keyword word.Case (word_of j)))) (nodes_in rows named k))) e (block-all k (subst (λ (o : Option Keyword). IsTrue (is_shape o)) (sym e) shape) (rw e refl)) in
      plain-all keyword (nodes_in rows named k) refl refl block

  below-suits : (seed : Seed) → IsTrue (suits seed) → IsTrue (list_all (suits_under (kind seed)) (below rows named seed))
  below-suits (k, None) h = row-suits k (word_of k) refl (and_first (fits rows (k, None)) true h)
  below-suits (k, Some implied.Case) h =
      let node : IsTrue (is_node (word_of k)) = and_first (fits rows (k, Some implied.Case)) (is_right (k, Some implied.Case)) h in
      let cases : IsTrue (not (is_keyword word.Case (word_of k))) = and_second (fits rows (k, Some implied.Case)) (is_right (k, Some implied.Case)) h in
      both (suits_under (Some word.Case) (plain k)) true (plain-suits (Some word.Case) k node (plain-under (Some word.Case) (word_of k) refl refl refl cases (node-param (word_of k) node))) refl
  below-suits (k, Some implied.Input) h = refl
  below-suits (k, Some implied.Output) h = refl

  -- ---- growth

  -- it is at the top level where that is allowed, or below a node that can have it as child
  abbrev pub is_linked : List TreeNode → TreeNode → Bool
  is_linked forest node = option_map_or (λ p. option_map_or (λ (above : TreeNode). can_be_under (kind_of rows above) (kind_of rows node)) (slice_get forest p) false) node.parent (can_be_on_top (kind_of rows node))

  abbrev pub AreLinked : List TreeNode → Type 0
  AreLinked forest = IsTrue (list_all (is_linked forest) forest)

  linked-front : (forest more : List TreeNode) (node : TreeNode) → IsTrue (is_linked forest node) → IsTrue (is_linked (forest ++ more) node)
  linked-front forest more node h =
      elim node.parent as (λ o. IsTrue (option_map_or (λ p. option_map_or (λ (above : TreeNode). can_be_under (kind_of rows above) (kind_of rows node)) (slice_get forest p) false) o (can_be_on_top (kind_of rows node)))
      → IsTrue (option_map_or (λ p. option_map_or (λ (above : TreeNode). can_be_under (kind_of rows above) (kind_of rows node)) (slice_get (forest ++ more) p) false) o (can_be_on_top (kind_of rows node)))) [
        | None ↦ λ h. h
        | Some p ↦
            (elim (slice_get forest p) as (λ o. slice_get forest p ≡ o → IsTrue (option_map_or (λ (above : TreeNode). can_be_under (kind_of rows above) (kind_of rows node)) o false)
            → IsTrue (option_map_or (λ (above : TreeNode). can_be_under (kind_of rows above) (kind_of rows node)) (slice_get (forest ++ more) p) false)) [
              | None ↦ λ at h. absurd (wrong h)
              | Some above ↦ λ at h. subst (λ (o : Option TreeNode). IsTrue (option_map_or (λ (above : TreeNode). can_be_under (kind_of rows above) (kind_of rows node)) o false)) (sym (got-front forest more p above at)) h
            ] refl)
      ] h

  all-front : (forest more some : List TreeNode) → IsTrue (list_all (is_linked forest) some) → IsTrue (list_all (is_linked (forest ++ more)) some)
  all-front forest more some h = all-of (is_linked forest) (is_linked (forest ++ more)) (λ node one. linked-front forest more node one) some h

  one-linked : (forest : List TreeNode) (node : TreeNode) → AreLinked forest → IsTrue (is_linked forest node) → AreLinked (forest ++ node ∷ [])
  one-linked forest node h k =
      all-joined (is_linked (forest ++ node ∷ [])) forest (node ∷ []) (all-front forest (node ∷ []) forest h) (both (is_linked (forest ++ node ∷ []) node) true (linked-front forest (node ∷ []) node k) refl)

  -- the nodes of these seeds would be linked
  abbrev would_link : ℕ → Option ℕ → List TreeNode → Seed → Bool
  would_link owner parent forest seed = suits seed && is_linked forest (node_of owner parent seed)

  would-front : (owner : ℕ) (parent : Option ℕ) (forest more : List TreeNode) (seeds : List Seed) → IsTrue (list_all (would_link owner parent forest) seeds) → IsTrue (list_all (would_link owner parent (forest ++ more)) seeds)
  would-front owner parent forest more seeds h =
      all-of (would_link owner parent forest) (would_link owner parent (forest ++ more)) (λ seed one.
      both (suits seed) (is_linked (forest ++ more) (node_of owner parent seed)) (and_first (suits seed) (is_linked forest (node_of owner parent seed)) one)
      (linked-front forest more (node_of owner parent seed) (and_second (suits seed) (is_linked forest (node_of owner parent seed)) one))) seeds h

  -- below a node that is there
  would-under : (owner p : ℕ) (forest : List TreeNode) (above : TreeNode) (seeds : List Seed) → slice_get forest p ≡ Some above → IsTrue (list_all (suits_under (kind_of rows above)) seeds) → IsTrue (list_all (would_link owner (Some p) forest) seeds)
  would-under owner p forest above seeds at h =
      all-of (suits_under (kind_of rows above)) (would_link owner (Some p) forest) (λ seed one.
      let under = and_second (suits seed) (can_be_under (kind_of rows above) (kind seed)) one in
      both (suits seed) (is_linked forest (node_of owner (Some p) seed)) (and_first (suits seed) (can_be_under (kind_of rows above) (kind seed)) one)
      (subst (λ (o : Option TreeNode). IsTrue (option_map_or (λ (above : TreeNode). can_be_under (kind_of rows above) (kind seed)) o false)) (sym at) under)) seeds h

  record Grows (forest result : List TreeNode) : Type 0 where
    more : List TreeNode
    is : result ≡ forest ++ more
    linked : AreLinked result

  fold-grows : (owner : ℕ) (step : List TreeNode → Seed → List TreeNode) (parent : Option ℕ)
      → ((f : List TreeNode) (seed : Seed) → IsTrue (would_link owner parent f seed) → AreLinked f → Grows f (step f seed)) → (forest : List TreeNode) (seeds : List Seed)
      → IsTrue (list_all (would_link owner parent forest) seeds) → AreLinked forest → Grows forest (fold step forest seeds)
  fold-grows owner step parent one forest [] ok h = record { more = []; is = sym (append-nil forest); linked = h }
  fold-grows owner step parent one forest (seed ∷ seeds) ok h =
      let first = one forest seed (and_first (would_link owner parent forest seed) (list_all (would_link owner parent forest) seeds) ok) h in
      let rest = would-front owner parent forest first.more seeds (and_second (would_link owner parent forest seed) (list_all (would_link owner parent forest) seeds) ok) in
      let here = subst (λ (f : List TreeNode). IsTrue (list_all (would_link owner parent f) seeds)) (sym first.is) rest in
      let later = fold-grows owner step parent one (step forest seed) seeds here first.linked in
      record { more = first.more ++ later.more; is = later.is ∙ ap (λ (xs : List TreeNode). xs ++ later.more) first.is ∙ append_assoc forest first.more later.more; linked = later.linked }

  grow-linked : (n owner : ℕ) (parent : Option ℕ) (forest : List TreeNode) (seeds : List Seed) → IsTrue (list_all (would_link owner parent forest) seeds) → AreLinked forest → Grows forest (grow n rows named owner parent forest seeds)
  grow-linked zero owner parent forest seeds ok h = record { more = []; is = grow-zero rows named owner parent forest seeds ∙ sym (append-nil forest); linked = subst AreLinked (sym (grow-zero rows named owner parent forest seeds)) h }
  grow-linked (suc n) owner parent forest seeds ok h =
      subst (Grows forest) (sym (grow-suc n rows named owner parent forest seeds)) (fold-grows owner (with_seed n rows named owner parent) parent (λ f seed would good.
      let node = node_of owner parent seed in
      let next = f ++ node ∷ [] in
      let linked = one-linked f node good (and_second (suits seed) (is_linked f node) would) in
      let inner = grow-linked n owner (Some (length f)) next (below rows named seed) (would-under owner (length f) next node (below rows named seed) (got-last f node) (below-suits seed (and_first (suits seed) (is_linked f node) would))) linked in
      record { more = (node ∷ []) ++ inner.more; is = inner.is ∙ append_assoc f (node ∷ []) inner.more; linked = inner.linked }) forest seeds ok h)

  -- ---- modules

  module _ (quiet : flat_map (λ (e : ℕ × Stmt). module_faults e.0 e.1) (enumerate_from 0 stmts) ≡ []) where
    top-link : (m : ℕ) (forest : List TreeNode) → m < length stmts → IsTrue (list_all (would_link m None forest) (seeds_in rows named None (top_of stmts m)))
    top-link m forest h =
        let top = top-keyword stmts quiet m h in
        all-map-to plain (is_in (top_of stmts m)) (would_link m None forest) (λ k one.
        let node = and_first (is_node (word_of k)) (fits_block (word_of (top_of stmts m)) (word_of k)) one in
        let fit = and_second (is_node (word_of k)) (fits_block (word_of (top_of stmts m)) (word_of k)) one in
        let cases = no-case (word_of (top_of stmts m)) (word_of k) (rw top refl) (rw top refl) fit in
        let param : IsTrue (not (is_param (word_of k))) = rw (node-param (word_of k) node) refl in
        let shape = and_first (suits (plain k)) (can_be_under (Some word.Case) (word_of k)) (plain-suits (Some word.Case) k node (plain-under (Some word.Case) (word_of k) refl refl refl cases (node-param (word_of k) node))) in
        both (suits (plain k)) (can_be_on_top (word_of k)) shape (both (not (is_keyword word.Case (word_of k))) (not (is_param (word_of k))) cases param)) (nodes_in rows named (top_of stmts m)) (nodes-fit-in (length rows) (top_of stmts m))

    trees-linked : (m : ℕ) → m ≤ length stmts → AreLinked (trees_until m stmts rows named)
    unfolding trees_until
    trees-linked zero h = refl
    trees-linked (suc m) h = (grow-linked (2 * length rows) m None (trees_until m stmts rows named) (seeds_in rows named None (top_of stmts m)) (top-link m (trees_until m stmts rows named) (omega arith)) (trees-linked m (omega arith))).linked

    -- ---- augments

    holds-kind : (keyword : Option Keyword) → holds_data keyword ≡ true → (is_keyword word.Choice keyword ≡ false) × (is_keyword word.Rpc keyword ≡ false) × (is_leafy keyword ≡ false)
    holds-kind None h = absurd (wrong h)
    holds-kind (Some word.Container) h = (refl, refl, refl)
    holds-kind (Some word.List) h = (refl, refl, refl)
    holds-kind (Some word.Case) h = (refl, refl, refl)
    holds-kind (Some word.Input) h = (refl, refl, refl)
    holds-kind (Some word.Output) h = (refl, refl, refl)
    holds-kind (Some word.Notification) h = (refl, refl, refl)
    holds-kind (Some keyword) h = absurd (wrong h)

    none-seeds : (keyword : Option Keyword) (b : ℕ) → nodes_in rows named b ≡ [] → seeds_in rows named keyword b ≡ []
    none-seeds (Some word.Choice) b e = ap (map (in_choice rows)) e
    none-seeds keyword b e = ap (map plain) e

    plain-seeds : (keyword : Option Keyword) (b : ℕ) → is_keyword word.Choice keyword ≡ false → seeds_in rows named keyword b ≡ map plain (nodes_in rows named b)
    plain-seeds (Some word.Choice) b e = absurd (let no : true ≡ false = e in cc)
    plain-seeds keyword b e = refl

    few : (xs : List ℕ) → nat_lt 0 (length xs) ≡ false → xs ≡ []
    few [] e = refl
    few (x ∷ xs) e = let some : nat_lt 0 (length (x ∷ xs)) ≡ true = grind (arith, nat_tests) in absurd (let no : true ≡ false = sym some ∙ e in cc)

    -- no case is in the block itself, and none is from groupings
    not-found : (p : ℕ → Bool) (xs : List ℕ) → is_some (find p xs) ≡ false → IsTrue (list_all (λ k. not (p k)) xs)
    not-found p [] e = refl
    not-found p (x ∷ xs) e = elim (cases_Bool (p x)) [
      | inl t ↦ (let no = rw t at e in cc)
      | inr f ↦ both (not (p x)) (list_all (λ k. not (p k)) xs) (rw f refl) (not-found p xs (rw f at e))
    ]

    no-cases : (n b : ℕ) → has_case rows b ≡ false → IsTrue (list_all (λ k. not (is_keyword word.Case (word_of k))) (nodes_within n rows named b))
    unfolding nodes_within
    no-cases zero b e = refl
    no-cases (suc n) b e =
        let test = λ (k : ℕ). not (is_keyword word.Case (word_of k)) in
        let own = not-found (λ k. is_keyword word.Case (word_of k)) (inside rows b) e in
        let used = inside-all stmts held b (λ j. list_all (λ g. list_all test (nodes_within n rows named g)) (used_by named j)) (λ j row at inner.
        used-grouping stmts held j row (λ g. list_all test (nodes_within n rows named g)) at (λ g uses kind.
        all-of (is_in g) test (λ k h. grouping-fits (word_of g) (word_of k) kind (and_second (is_node (word_of k)) (fits_block (word_of g) (word_of k)) h)) (nodes_within n rows named g) (nodes-fit-in n g))) in
        flat-all test (nodes_at (nodes_within n rows named) rows named) (inside rows b)
        (all-of (λ j. test j && list_all (λ g. list_all test (nodes_within n rows named g)) (used_by named j)) (λ j. list_all test (nodes_at (nodes_within n rows named) rows named j)) (λ j h.
        elim (cases_Bool (is_node (word_of j))) [
          | inl t ↦ rw t (both (test j) true (and_first (test j) (list_all (λ g. list_all test (nodes_within n rows named g)) (used_by named j)) h) refl)
          | inr f ↦ rw f (flat-all test (nodes_within n rows named) (used_by named j) (and_second (test j) (list_all (λ g. list_all test (nodes_within n rows named g)) (used_by named j)) h))
        ]) (inside rows b) (all-both test (λ j. list_all (λ g. list_all test (nodes_within n rows named g)) (used_by named j)) (inside rows b) own used))

    not-true : (b : Bool) → IsTrue (not b) → b ≡ false
    not-true true h = absurd (wrong h)
    not-true false h = refl

    augment-suits : (keyword : Option Keyword) (k : ℕ) (some : Bool) → has_nodes rows named k ≡ some → can_hold rows keyword k some ≡ true → IsTrue (list_all (suits_under keyword) (seeds_in rows named keyword k))
    augment-suits keyword k false e h = subst (λ (seeds : List Seed). IsTrue (list_all (suits_under keyword) seeds)) (sym (none-seeds keyword k (few (nodes_in rows named k) e))) refl
    augment-suits (Some word.Choice) k true e h = choice-all (nodes_in rows named k) (only-nodes k)
    augment-suits keyword k true e h =
        let (choice, rpc, leafy) = holds-kind keyword (and_first (holds_data keyword) (not (has_case rows k)) h) in
        let cases = no-cases (length rows) k (not-true (has_case rows k) (and_second (holds_data keyword) (not (has_case rows k)) h)) in
        let all = all-of (λ j. is_node (word_of j) && not (is_keyword word.Case (word_of j))) (λ j. is_node (word_of j) && (not (is_leafy keyword) && not (is_keyword word.Case (word_of j)))) (λ j h.
        both (is_node (word_of j)) (not (is_leafy keyword) && not (is_keyword word.Case (word_of j))) (and_first (is_node (word_of j)) (not (is_keyword word.Case (word_of j))) h)
        (both (not (is_leafy keyword)) (not (is_keyword word.Case (word_of j))) (false-is (is_leafy keyword) leafy) (and_second (is_node (word_of j)) (not (is_keyword word.Case (word_of j))) h))) (nodes_in rows named k)
        (all-both (λ j. is_node (word_of j)) (λ j. not (is_keyword word.Case (word_of j))) (nodes_in rows named k) (only-nodes k) cases) in
        subst (λ (seeds : List Seed). IsTrue (list_all (suits_under keyword) seeds)) (sym (plain-seeds keyword k choice)) (plain-all keyword (nodes_in rows named k) choice rpc all)

    target-suits : (owner k target : ℕ) (forest : List TreeNode) (found : Option TreeNode) → slice_get forest target ≡ found → can_hold rows (option_and_then (kind_of rows) found) k (has_nodes rows named k) ≡ true
        → IsTrue (list_all (would_link owner (Some target) forest) (seeds_in rows named (option_and_then (kind_of rows) found) k))
    target-suits owner k target forest None at h = elim (cases_Bool (has_nodes rows named k)) [
      | inl t ↦ (let no : false ≡ true = rw t at h in absurd (wrong no))
      | inr f ↦ subst (λ (seeds : List Seed). IsTrue (list_all (would_link owner (Some target) forest) seeds)) (sym (none-seeds None k (few (nodes_in rows named k) f))) refl
    ]
    target-suits owner k target forest (Some above) at h =
        would-under owner target forest above (seeds_in rows named (kind_of rows above) k) at (augment-suits (kind_of rows above) k (has_nodes rows named k) refl h)

    carried-to : (owner k : ℕ) (forest : List TreeNode) (target : ℕ) (f : List TreeNode) → AreLinked forest → carried_to rows named owner k forest target (option_and_then (kind_of rows) (slice_get forest target)) ≡ Some f → AreLinked f
    carried-to owner k forest target f good e =
        let keyword = option_and_then (kind_of rows) (slice_get forest target) in
        elim (cases_Bool (can_hold rows keyword k (has_nodes rows named k))) [
          | inl holds ↦
              (let grew = rw holds at e in
              let is : grown rows named owner (Some target) forest (seeds_in rows named keyword k) ≡ f = cc in
              subst AreLinked is (grow-linked (2 * length rows) owner (Some target) forest (seeds_in rows named keyword k) (target-suits owner k target forest (slice_get forest target) refl holds) good).linked)
          | inr fails ↦ let none = rw fails at e in cc
        ]

    carried-at : (owner k : ℕ) (forest : List TreeNode) (target : Option ℕ) (f : List TreeNode) → AreLinked forest → carried_at rows named owner k forest target ≡ Some f → AreLinked f
    carried-at owner k forest None f good e = cc
    carried-at owner k forest (Some target) f good e = carried-to owner k forest target f good e

    carried-linked : (forest : List TreeNode) (k : ℕ) (row : Option TreeRow) (f : List TreeNode) → AreLinked forest → carried stmts rows named forest k row ≡ Some f → AreLinked f
    carried-linked forest k None f good e = cc
    carried-linked forest k (Some row) f good e = carried-at row.module k forest (follow rows forest None (path_of stmts row)) f good e

    after-linked : (now : Progress) (k : ℕ) (c : Option (List TreeNode)) → AreLinked now.0 → ((f : List TreeNode) → c ≡ Some f → AreLinked f) → AreLinked (after_try now k c).0
    after-linked now k None good next = good
    after-linked now k (Some f) good next = next f refl

    tries-linked : (now : Progress) (ks : List ℕ) → AreLinked now.0 → AreLinked (fold (tried stmts rows named) now ks).0
    tries-linked now [] good = good
    tries-linked now (k ∷ ks) good =
        tries-linked (tried stmts rows named now k) ks (after-linked now k (carried stmts rows named now.0 k (slice_get rows k)) good (λ f e. carried-linked now.0 k (slice_get rows k) f good e))

    rounds-linked : (n : ℕ) (now : Progress) → AreLinked now.0 → AreLinked (rounds n stmts rows named now).0
    unfolding rounds
    rounds-linked zero now good = good
    rounds-linked (suc n) now good = elim (cases_Bool (length (round stmts rows named now).1 == length now.1)) [
      | inl holds ↦ rw holds (tries-linked (now.0, []) now.1 good)
      | inr fails ↦ rw fails (rounds-linked n (round stmts rows named now) (tries-linked (now.0, []) now.1 good))
    ]

    pub nodes-linked : AreLinked (built stmts (rows_of stmts) (named_of stmts (rows_of stmts))).0
    nodes-linked = rounds-linked (length (augments_of rows)) (trees_of stmts rows named, augments_of rows) (trees-linked (length stmts) (omega arith))

    -- ---- after the nodes of an older version

    from-linked : (old : ℕ) (before : List TreeNode) → AreLinked before → (n : ℕ) → old + n ≤ length stmts → AreLinked (trees_from n stmts rows named old before)
    unfolding trees_from
    from-linked old before good zero h = good
    from-linked old before good (suc n) h =
        let forest = trees_from n stmts rows named old before in
        (grow-linked (2 * length rows) (old + n) None forest (seeds_in rows named None (top_of stmts (old + n))) (top-link (old + n) forest (omega arith)) (from-linked old before good n (omega arith))).linked

    pub on-linked : (old : ℕ) (before : List TreeNode) → old ≤ length stmts → AreLinked before → AreLinked (nodes_on stmts old before).0
    on-linked old before h good =
        rounds-linked (length (new_augments old rows)) (trees_from (length stmts - old) stmts rows named old before, new_augments old rows) (from-linked old before good (length stmts - old) (omega arith))
