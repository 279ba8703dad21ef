-- RPCs and notifications are at the top level: the profile allows them only in modules.
use Rattle.std.proofs.Common.{◌≡◌, ℕ, zero, suc, ◌+◌, ◌-◌, ◌*◌, nat_le, Bool, true, false, not, ◌&&◌, ◌==◌, IsTrue, List, [], ◌∷◌, ◌++◌, fold, map, length, Option, Some, None, refl, sym, ap, ◌∙◌, subst, inl, inr, arith, append_assoc, length-append}
use Rattle.std.specs.Prelude.{◌||◌, find, option_and_then, option_map, unwrap_or, is_some, is_none, if◌then◌else◌}
use Rattle.std.specs.List.{list_all, flat_map, slice_get, enumerate_from}
use Rattle.std.specs.Option.{option_map_or}
use Rattle.std.proofs.lemmas.Bool.{cases_Bool}
use Rattle.std.proofs.lemmas.Bool.Decides.{nat_tests}
use Rattle.sal_stmt.specs.declared.stmt.Stmt.{Stmt}
use Rattle.sal_module.specs.declared.keyword.Keyword.{Keyword}
use Rattle.sal_module.specs.declared.keyword.Keyword.TheVariants as word
use Rattle.sal_module.specs.Keywords.{same_keyword}
use Rattle.sal_grouping.proofs.Parts.{TreeNode, TreeRow}
use Rattle.sal_grouping.specs.declared.forest.Implied.{Implied}
use Rattle.sal_grouping.specs.declared.forest.Implied.TheVariants as implied
use Rattle.sal_grouping.specs.Augments.{Progress, kind_of, can_hold, has_nodes, follow, carried_to, carried_at, carried, after_try, tried, round, rounds, augment_at, augments_of}
use Rattle.sal_grouping.specs.Expand.{built}
use Rattle.sal_grouping.specs.Frames.{with_seed}
use Rattle.sal_grouping.specs.Groupings.{from_block, grouping_in, grouping_of, module_of, local_name, named_by, named_of, path_of}
use Rattle.sal_grouping.specs.Growth.{Seed, is_node, used_by, nodes_at, nodes_within, nodes_in, plain, in_choice, param_or, param, seeds_in, below_row, below, node_of, grow, grown, trees_until, trees_of}
use Rattle.sal_grouping.specs.Rows.{option_list, is_block, is_inside, is_number, inside, around_of, keyword_at, is_keyword, defines, first_of, top_of, rows_of}
use Rattle.sal_grouping.specs.Versions.{trees_from, new_augment_at, new_augments, nodes_on}
use Rattle.sal_schema.proofs.Conjuncts.{and_first, and_second}
use Rattle.sal_build.proofs.HeldRows.{AreHeld, is_held, is_call, can_stand}
use Rattle.sal_build.proofs.OwnStatements.{middle-got}
use Rattle.sal_build.proofs.Quiet.{both}
use Rattle.sal_build.proofs.Shapes.{fits, is_shape, all-joined, all-found, seeds-fit, below-fits, grow-zero, grow-suc}
use Rattle.sal_build.proofs.Uniques.{position-at}
use Rattle.sal_build.proofs.Entries.{wrong}
use Rattle.sal_build.proofs.DistinctNodes.{got-map}

nothing : (g : ℕ) → ◌≡◌ {A = Option ℕ} None (Some g) → ⊥
nothing g e = cc

pub got-all : {X : Type 0} (test : X → Bool) (xs : List X) (k : ℕ) (x : X) → IsTrue (list_all test xs) → slice_get xs k ≡ Some x → IsTrue (test x)
got-all test [] k x h e = cc
got-all test (y ∷ xs) zero x h e = let is : y ≡ x = cc in subst (λ z. IsTrue (test z)) is (and_first (test y) (list_all test xs) h)
got-all test (y ∷ xs) (suc k) x h e = got-all test xs k x (and_second (test y) (list_all test xs) h) e

pub flat-all : {X : Type 0} (test : X → Bool) (f : ℕ → List X) (ks : List ℕ) → IsTrue (list_all (λ k. list_all test (f k)) ks) → IsTrue (list_all test (flat_map f ks))
flat-all test f [] h = refl
flat-all test f (k ∷ ks) h =
    all-joined test (f k) (flat_map f ks) (and_first (list_all test (f k)) (list_all (λ k. list_all test (f k)) ks) h) (flat-all test f ks (and_second (list_all test (f k)) (list_all (λ k. list_all test (f k)) ks) h))

pub all-map-to : {X Y : Type 0} (f : X → Y) (a : X → Bool) (b : Y → Bool) → ((x : X) → IsTrue (a x) → IsTrue (b (f x))) → (xs : List X) → IsTrue (list_all a xs) → IsTrue (list_all b (map f xs))
all-map-to f a b shows [] h = refl
all-map-to f a b shows (x ∷ xs) h = both (b (f x)) (list_all b (map f xs)) (shows x (and_first (a x) (list_all a xs) h)) (all-map-to f a b shows xs (and_second (a x) (list_all a xs) h))

-- ---- keywords

grouping-alone : (keyword : Option Keyword) → is_keyword word.Grouping keyword ≡ true → is_keyword word.Module keyword ≡ false
grouping-alone None e = absurd (wrong e)
grouping-alone (Some word.Grouping) e = refl
grouping-alone (Some keyword) e = absurd (wrong e)

augment-alone : (keyword : Option Keyword) → is_keyword word.Augment keyword ≡ true → is_keyword word.Module keyword ≡ false
augment-alone None e = absurd (wrong e)
augment-alone (Some word.Augment) e = refl
augment-alone (Some keyword) e = absurd (wrong e)

input-quiet : (keyword : Option Keyword) → is_keyword word.Input keyword ≡ true → IsTrue (not (is_call keyword))
input-quiet None e = absurd (wrong e)
input-quiet (Some word.Input) e = refl
input-quiet (Some keyword) e = absurd (wrong e)

output-quiet : (keyword : Option Keyword) → is_keyword word.Output keyword ≡ true → IsTrue (not (is_call keyword))
output-quiet None e = absurd (wrong e)
output-quiet (Some word.Output) e = refl
output-quiet (Some keyword) e = absurd (wrong e)

-- a statement that makes a node is no module
shape-alone : (keyword : Option Keyword) → IsTrue (is_shape keyword) → is_keyword word.Module keyword ≡ false
shape-alone None h = refl
shape-alone (Some word.Module) h = absurd (wrong h)
shape-alone (Some keyword) h = refl

-- a statement that is allowed there is an RPC or a notification only in a module
quiet-inside : (parent child : Option Keyword) → is_keyword word.Module parent ≡ false → IsTrue (can_stand parent child) → IsTrue (not (is_call child))
quiet-inside parent child alone h =
    let front = and_first ((not (is_keyword word.Case child) || (is_keyword word.Choice parent || is_keyword word.Augment parent)) && (not (is_call child) || is_keyword word.Module parent)) _ h in
    let calls = and_second (not (is_keyword word.Case child) || (is_keyword word.Choice parent || is_keyword word.Augment parent)) (not (is_call child) || is_keyword word.Module parent) front in
    let left : IsTrue (not (is_call child) || false) = rw alone at calls in
    nothing-more (not (is_call child)) left
  where
    nothing-more : (b : Bool) → IsTrue (b || false) → IsTrue b
    nothing-more true h = refl
    nothing-more false h = h

-- a call has no parent
abbrev pub is_alone_in : List TreeRow → TreeNode → Bool
is_alone_in rows node = is_none node.parent || not (is_call (kind_of rows node))

module _ (stmts : List Stmt) (held : AreHeld (rows_of stmts)) where
  abbrev rows : List TreeRow
  rows = rows_of stmts

  abbrev named : List (Option ℕ)
  named = named_of stmts (rows_of stmts)

  abbrev is_quiet : ℕ → Bool
  is_quiet k = not (is_call (keyword_at rows k))

  -- ---- the statements of a block

  block-is : (b : ℕ) (around : Option ℕ) → is_block b around ≡ true → around ≡ Some b
  block-is b None e = absurd (wrong e)
  block-is b (Some a) e = let is : a ≡ b = grind (arith, nat_tests) in ap Some is

  pub stands-in : (b : ℕ) (row : TreeRow) → is_inside b row ≡ true → IsTrue (is_held rows row) → IsTrue (can_stand (keyword_at rows b) (Some row.keyword))
  stands-in b row e h =
      let at : IsTrue (option_map_or (λ (above : TreeRow). can_stand (Some above.keyword) (Some row.keyword)) (slice_get rows b) false) =
      subst (λ (o : Option ℕ). IsTrue (option_map_or (λ b. option_map_or (λ (above : TreeRow). can_stand (Some above.keyword) (Some row.keyword)) (slice_get rows b) false) o (is_keyword word.Module (Some row.keyword)))) (block-is b row.around e) h in
      elim (slice_get rows b) as (λ o. IsTrue (option_map_or (λ (above : TreeRow). can_stand (Some above.keyword) (Some row.keyword)) o false) → IsTrue (can_stand (option_map (λ (above : TreeRow). above.keyword) o) (Some row.keyword))) [
        | None ↦ λ h. absurd (wrong h)
        | Some above ↦ λ h. h
      ] at

  -- what holds of each row in a block holds of their numbers
  inside-from : (b : ℕ) (test : ℕ → Bool) → ((j : ℕ) (row : TreeRow) → slice_get rows j ≡ Some row → is_inside b row ≡ true → IsTrue (test j)) → (done rest : List TreeRow) (k : ℕ) → k ≡ length done → rows ≡ done ++ rest
      → IsTrue (list_all test (flat_map (λ (entry : ℕ × TreeRow). if is_inside b entry.1 then entry.0 ∷ [] else []) (enumerate_from k rest)))
  inside-from b test each done [] k count is = refl
  inside-from b test each done (row ∷ rest) k count is =
      let at : slice_get rows k ≡ Some row = ap (λ (xs : List TreeRow). slice_get xs k) is ∙ middle-got done rest row k count in
      let here : IsTrue (list_all test (if is_inside b row then k ∷ [] else [])) = elim (cases_Bool (is_inside b row)) [ inl t ↦ rw t (both (test k) true (each k row at t) refl) | inr f ↦ rw f refl ] in
      all-joined test (if is_inside b row then k ∷ [] else []) (flat_map (λ (entry : ℕ × TreeRow). if is_inside b entry.1 then entry.0 ∷ [] else []) (enumerate_from (k + 1) rest)) here
      (inside-from b test each (done ++ row ∷ []) rest (k + 1) (omega (arith, length-append done (row ∷ []))) (is ∙ sym (append_assoc done (row ∷ []) rest)))

  pub inside-all : (b : ℕ) (test : ℕ → Bool) → ((j : ℕ) (row : TreeRow) → slice_get rows j ≡ Some row → is_inside b row ≡ true → IsTrue (test j)) → IsTrue (list_all test (inside rows b))
  inside-all b test each = elim (cases_Bool (is_number rows b)) [ inl t ↦ rw t (inside-from b test each [] rows 0 refl refl) | inr f ↦ rw f refl ]

  -- ---- the groupings that are named

  first-grouping : (b : ℕ) (name : List ℕ) (g : ℕ) → first_of rows word.Grouping b name ≡ Some g → is_keyword word.Grouping (keyword_at rows g) ≡ true
  first-grouping b name g e = elim (cases_Bool (is_number rows b)) [
    | inr f ↦ (let no = rw f at e in cc)
    | inl t ↦
        (let found = position-at (defines word.Grouping b name) 0 rows g (rw t at e) in
        let there : g ≡ found.place = omega (arith, found.is) in
        let got : slice_get rows g ≡ Some found.one = ap (slice_get rows) there ∙ found.got in
        let both_parts = and_first (is_inside b found.one && same_keyword found.one.keyword word.Grouping) _ found.passes in
        let kind : same_keyword found.one.keyword word.Grouping ≡ true = and_second (is_inside b found.one) (same_keyword found.one.keyword word.Grouping) both_parts in
        ap (λ (o : Option TreeRow). is_keyword word.Grouping (option_map (λ (row : TreeRow). row.keyword) o)) got ∙ kind)
  ]

  block-grouping : (n : ℕ) (name : List ℕ) (block : Option ℕ) (g : ℕ) → from_block n rows name block ≡ Some g → is_keyword word.Grouping (keyword_at rows g) ≡ true
  unfolding from_block
  block-grouping zero name block g e = cc
  block-grouping (suc n) name None g e = cc
  block-grouping (suc n) name (Some b) g e = elim (cases_Bool (is_some (first_of rows word.Grouping b name))) [
    | inl t ↦ first-grouping b name g (rw t at e)
    | inr f ↦ block-grouping n name (around_of rows b) g (rw f at e)
  ]

  named-grouping : (m : ℕ) (block : Option ℕ) (text : List ℕ) (g : ℕ) → grouping_of stmts rows m block text ≡ Some g → is_keyword word.Grouping (keyword_at rows g) ≡ true
  named-grouping m block text g e =
      elim (module_of stmts m text) as (λ o. grouping_in stmts rows m block (local_name text) o ≡ Some g → is_keyword word.Grouping (keyword_at rows g) ≡ true) [
        | None ↦ λ e. absurd (nothing g e)
        | Some k ↦ λ e. (elim (cases_Bool (k == m)) [
          | inl t ↦ block-grouping 65 (local_name text) block g (rw t at e)
          | inr f ↦ first-grouping (top_of stmts k) (local_name text) g (rw f at e)
        ])
      ] e

  row-grouping : (row : TreeRow) (g : ℕ) → named_by stmts rows row ≡ Some g → is_keyword word.Grouping (keyword_at rows g) ≡ true
  row-grouping row g e = elim (cases_Bool (same_keyword row.keyword word.Uses)) [
    | inl t ↦ named-grouping row.module row.around row.name g (rw t at e)
    | inr f ↦ (let no = rw f at e in cc)
  ]

  pub used-grouping : (j : ℕ) (row : TreeRow) (test : ℕ → Bool) → slice_get rows j ≡ Some row → ((g : ℕ) → same_keyword row.keyword word.Uses ≡ true → is_keyword word.Grouping (keyword_at rows g) ≡ true → IsTrue (test g))
      → IsTrue (list_all test (used_by named j))
  used-grouping j row test at each =
      subst (λ (o : Option (Option ℕ)). IsTrue (list_all test (option_list (unwrap_or o None)))) (sym (got-map (named_by stmts rows) rows j row at))
      (elim (cases_Bool (same_keyword row.keyword word.Uses)) [
        | inl uses ↦
            (elim (named_by stmts rows row) as (λ o. named_by stmts rows row ≡ o → IsTrue (list_all test (option_list o))) [
              | None ↦ λ e. refl
              | Some g ↦ λ e. both (test g) true (each g uses (row-grouping row g e)) refl
            ] refl)
        | inr other ↦ rw other refl
      ])

  -- ---- the nodes of a block

  nodes-quiet : (n b : ℕ) → is_keyword word.Module (keyword_at rows b) ≡ false → IsTrue (list_all is_quiet (nodes_within n rows named b))
  unfolding nodes_within
  nodes-quiet zero b alone = refl
  nodes-quiet (suc n) b alone =
      flat-all is_quiet (nodes_at (nodes_within n rows named) rows named) (inside rows b)
      (inside-all b (λ k. list_all is_quiet (nodes_at (nodes_within n rows named) rows named k)) (λ j row at e.
      let stands = stands-in b row e (got-all (is_held rows) rows j row held at) in
      let own : IsTrue (is_quiet j) = subst (λ (o : Option TreeRow). IsTrue (not (is_call (option_map (λ (row : TreeRow). row.keyword) o)))) (sym at) (quiet-inside (keyword_at rows b) (Some row.keyword) alone stands) in
      elim (cases_Bool (is_node (keyword_at rows j))) [
        | inl t ↦ rw t (both (is_quiet j) true own refl)
        | inr f ↦ rw f (flat-all is_quiet (nodes_within n rows named) (used_by named j) (used-grouping j row (λ g. list_all is_quiet (nodes_within n rows named g)) at (λ g uses kind. nodes-quiet n g (grouping-alone (keyword_at rows g) kind))))
      ]))

  -- ---- seeds

  -- with a parent, no call
  abbrev is_calm : Seed → Bool
  is_calm (k, None) = is_quiet k
  is_calm (k, Some implied.Case) = is_quiet k
  is_calm (k, Some other) = true

  abbrev is_right : Option ℕ → Seed → Bool
  is_right None (k, None) = true
  is_right None (k, Some side) = is_calm (k, Some side)
  is_right (Some p) seed = is_calm seed

  abbrev suits : Option ℕ → Seed → Bool
  suits parent seed = fits rows seed && is_right parent seed

  calm-right : (parent : Option ℕ) (seed : Seed) → IsTrue (is_calm seed) → IsTrue (is_right parent seed)
  calm-right None (k, None) h = refl
  calm-right None (k, Some side) h = h
  calm-right (Some p) seed h = h

  choice-calm : (k : ℕ) → IsTrue (is_quiet k) → IsTrue (is_calm (in_choice rows k))
  choice-calm k h = elim (cases_Bool (is_keyword word.Case (keyword_at rows k))) [ inl t ↦ rw t h | inr f ↦ rw f h ]

  seeds-calm : (keyword : Option Keyword) (b : ℕ) → is_keyword word.Module (keyword_at rows b) ≡ false → IsTrue (list_all is_calm (seeds_in rows named keyword b))
  seeds-calm (Some word.Choice) b alone = all-map-to (in_choice rows) is_quiet is_calm choice-calm (nodes_in rows named b) (nodes-quiet (length rows) b alone)
  seeds-calm keyword b alone = all-map-to plain is_quiet is_calm (λ k h. h) (nodes_in rows named b) (nodes-quiet (length rows) b alone)

  param-calm : (rpc : ℕ) (side : Implied) (keyword : Keyword) → IsTrue (is_calm (rpc, Some side)) → ((k : Option Keyword) → is_keyword keyword k ≡ true → IsTrue (not (is_call k))) → IsTrue (is_calm (param rows rpc keyword side))
  param-calm rpc side keyword none shows =
      let p : ℕ → Bool = λ k. is_keyword keyword (keyword_at rows k) in
      elim (find p (inside rows rpc)) as (λ f. find p (inside rows rpc) ≡ f → IsTrue (is_calm (param_or rpc side f))) [
        | None ↦ λ e. none
        | Some k ↦ λ e. shows (keyword_at rows k) (all-found p p (inside rows rpc) k e)
      ] refl

  row-calm : (keyword : Option Keyword) (k : ℕ) → is_keyword word.Module (keyword_at rows k) ≡ false → IsTrue (list_all is_calm (below_row rows named keyword k))
  row-calm (Some word.Rpc) k alone =
      both (is_calm (param rows k word.Input implied.Input)) _ (param-calm k implied.Input word.Input refl input-quiet)
      (both (is_calm (param rows k word.Output implied.Output)) true (param-calm k implied.Output word.Output refl output-quiet) refl)
  row-calm keyword k alone = seeds-calm keyword k alone

  below-calm : (parent : Option ℕ) (seed : Seed) → IsTrue (suits parent seed) → IsTrue (list_all is_calm (below rows named seed))
  below-calm parent (k, None) h = row-calm (keyword_at rows k) k (shape-alone (keyword_at rows k) (and_first (fits rows (k, None)) (is_right parent (k, None)) h))
  below-calm None (k, Some implied.Case) h = both (is_calm (plain k)) true (and_second (fits rows (k, Some implied.Case)) (is_right None (k, Some implied.Case)) h) refl
  below-calm (Some p) (k, Some implied.Case) h = both (is_calm (plain k)) true (and_second (fits rows (k, Some implied.Case)) (is_right (Some p) (k, Some implied.Case)) h) refl
  below-calm parent (k, Some other) h = refl

  all-suit : (parent : Option ℕ) (seeds : List Seed) → IsTrue (list_all (fits rows) seeds) → IsTrue (list_all is_calm seeds) → IsTrue (list_all (suits parent) seeds)
  all-suit parent [] h k = refl
  all-suit parent (seed ∷ seeds) h k =
      both (suits parent seed) (list_all (suits parent) seeds)
      (both (fits rows seed) (is_right parent seed) (and_first (fits rows seed) (list_all (fits rows) seeds) h) (calm-right parent seed (and_first (is_calm seed) (list_all is_calm seeds) k)))
      (all-suit parent seeds (and_second (fits rows seed) (list_all (fits rows) seeds) h) (and_second (is_calm seed) (list_all is_calm seeds) k))

  top-suit : (ks : List ℕ) → IsTrue (list_all (fits rows) (map plain ks)) → IsTrue (list_all (suits None) (map plain ks))
  top-suit [] h = refl
  top-suit (k ∷ ks) h =
      both (suits None (plain k)) (list_all (suits None) (map plain ks)) (both (fits rows (plain k)) true (and_first (fits rows (plain k)) (list_all (fits rows) (map plain ks)) h) refl)
      (top-suit ks (and_second (fits rows (plain k)) (list_all (fits rows) (map plain ks)) h))

  -- ---- growth

  -- a call has no parent
  abbrev pub is_alone : TreeNode → Bool
  is_alone node = is_none node.parent || not (is_call (kind_of rows node))

  abbrev Good : List TreeNode → Type 0
  Good forest = IsTrue (list_all is_alone forest)

  alone-node : (owner : ℕ) (parent : Option ℕ) (seed : Seed) → IsTrue (is_right parent seed) → IsTrue (is_alone (node_of owner parent seed))
  alone-node owner None seed h = refl
  alone-node owner (Some p) (k, None) h = h
  alone-node owner (Some p) (k, Some implied.Case) h = refl
  alone-node owner (Some p) (k, Some implied.Input) h = refl
  alone-node owner (Some p) (k, Some implied.Output) h = refl

  fold-good : (step : List TreeNode → Seed → List TreeNode) (parent : Option ℕ) → ((f : List TreeNode) (seed : Seed) → IsTrue (suits parent seed) → Good f → Good (step f seed)) → (forest : List TreeNode) (seeds : List Seed)
      → IsTrue (list_all (suits parent) seeds) → Good forest → Good (fold step forest seeds)
  fold-good step parent one forest [] ok h = h
  fold-good step parent one forest (seed ∷ seeds) ok h =
      fold-good step parent one (step forest seed) seeds (and_second (suits parent seed) (list_all (suits parent) seeds) ok) (one forest seed (and_first (suits parent seed) (list_all (suits parent) seeds) ok) h)

  grow-good : (n owner : ℕ) (parent : Option ℕ) (forest : List TreeNode) (seeds : List Seed) → IsTrue (list_all (suits parent) seeds) → Good forest → Good (grow n rows named owner parent forest seeds)
  grow-good zero owner parent forest seeds ok h = subst Good (sym (grow-zero rows named owner parent forest seeds)) h
  grow-good (suc n) owner parent forest seeds ok h =
      subst Good (sym (grow-suc n rows named owner parent forest seeds)) (fold-good (with_seed n rows named owner parent) parent (λ f seed suit good.
      let node = node_of owner parent seed in
      let more = all-joined is_alone f (node ∷ []) good (both (is_alone node) true (alone-node owner parent seed (and_second (fits rows seed) (is_right parent seed) suit)) refl) in
      grow-good n owner (Some (length f)) (f ++ node ∷ []) (below rows named seed)
      (all-suit (Some (length f)) (below rows named seed) (below-fits rows named seed (and_first (fits rows seed) (is_right parent seed) suit)) (below-calm parent seed suit)) more) forest seeds ok h)

  -- ---- modules and augments

  trees-good : (m : ℕ) → Good (trees_until m stmts rows named)
  unfolding trees_until
  trees-good zero = refl
  trees-good (suc m) = grow-good (2 * length rows) m None (trees_until m stmts rows named) (seeds_in rows named None (top_of stmts m)) (top-suit (nodes_in rows named (top_of stmts m)) (seeds-fit rows named None (top_of stmts m))) (trees-good m)

  abbrev is_augment : ℕ → Bool
  is_augment k = is_keyword word.Augment (keyword_at rows k)

  carried-to : (owner k : ℕ) (forest : List TreeNode) (target : ℕ) (kind : Option Keyword) (f : List TreeNode) → IsTrue (is_augment k) → Good forest → carried_to rows named owner k forest target kind ≡ Some f → Good f
  carried-to owner k forest target kind f augment good e = elim (cases_Bool (can_hold rows kind k (has_nodes rows named k))) [
    | inl holds ↦
        (let grew = rw holds at e in
        let is : grown rows named owner (Some target) forest (seeds_in rows named kind k) ≡ f = cc in
        let seeds = seeds_in rows named kind k in
        subst Good is (grow-good (2 * length rows) owner (Some target) forest seeds (all-suit (Some target) seeds (seeds-fit rows named kind k) (seeds-calm kind k (augment-alone (keyword_at rows k) augment))) good))
    | inr fails ↦ let none = rw fails at e in cc
  ]

  carried-at : (owner k : ℕ) (forest : List TreeNode) (target : Option ℕ) (f : List TreeNode) → IsTrue (is_augment k) → Good forest → carried_at rows named owner k forest target ≡ Some f → Good f
  carried-at owner k forest None f augment good e = cc
  carried-at owner k forest (Some target) f augment good e = carried-to owner k forest target (option_and_then (kind_of rows) (slice_get forest target)) f augment good e

  carried-good : (forest : List TreeNode) (k : ℕ) (row : Option TreeRow) (f : List TreeNode) → IsTrue (is_augment k) → Good forest → carried stmts rows named forest k row ≡ Some f → Good f
  carried-good forest k None f augment good e = cc
  carried-good forest k (Some row) f augment good e = carried-at row.module k forest (follow rows forest None (path_of stmts row)) f augment good e

  -- what is left are augments, and no call has a parent
  record IsRight (now : Progress) : Type 0 where
    good : Good now.0
    left : IsTrue (list_all is_augment now.1)

  after-right : (now : Progress) (k : ℕ) (c : Option (List TreeNode)) → IsTrue (is_augment k) → IsRight now → ((f : List TreeNode) → c ≡ Some f → Good f) → IsRight (after_try now k c)
  after-right now k None augment right next = record { good = right.good; left = all-joined is_augment now.1 (k ∷ []) right.left (both (is_augment k) true augment refl) }
  after-right now k (Some f) augment right next = record { good = next f refl; left = right.left }

  tries-right : (now : Progress) (ks : List ℕ) → IsTrue (list_all is_augment ks) → IsRight now → IsRight (fold (tried stmts rows named) now ks)
  tries-right now [] all right = right
  tries-right now (k ∷ ks) all right =
      let augment = and_first (is_augment k) (list_all is_augment ks) all in
      tries-right (tried stmts rows named now k) ks (and_second (is_augment k) (list_all is_augment ks) all)
      (after-right now k (carried stmts rows named now.0 k (slice_get rows k)) augment right (λ f e. carried-good now.0 k (slice_get rows k) f augment right.good e))

  round-right : (now : Progress) → IsRight now → IsRight (round stmts rows named now)
  round-right now right = tries-right (now.0, []) now.1 right.left (record { good = right.good; left = refl })

  rounds-right : (n : ℕ) (now : Progress) → IsRight now → IsRight (rounds n stmts rows named now)
  unfolding rounds
  rounds-right zero now right = right
  rounds-right (suc n) now right = elim (cases_Bool (length (round stmts rows named now).1 == length now.1)) [
    | inl holds ↦ rw holds (round-right now right)
    | inr fails ↦ rw fails (rounds-right n (round stmts rows named now) (round-right now right))
  ]

  pub augments-are : (done rest : List TreeRow) (k : ℕ) → k ≡ length done → rows ≡ done ++ rest → IsTrue (list_all is_augment (flat_map (λ (entry : ℕ × TreeRow). augment_at entry.0 entry.1) (enumerate_from k rest)))
  augments-are done [] k count is = refl
  augments-are done (row ∷ rest) k count is =
      let at : slice_get rows k ≡ Some row = ap (λ (xs : List TreeRow). slice_get xs k) is ∙ middle-got done rest row k count in
      let here : IsTrue (list_all is_augment (augment_at k row)) = elim (cases_Bool (same_keyword row.keyword word.Augment)) [
        | inl t ↦ rw t (both (is_augment k) true (ap (λ (o : Option TreeRow). is_keyword word.Augment (option_map (λ (row : TreeRow). row.keyword) o)) at ∙ t) refl)
        | inr f ↦ rw f refl
      ] in
      all-joined is_augment (augment_at k row) (flat_map (λ (entry : ℕ × TreeRow). augment_at entry.0 entry.1) (enumerate_from (k + 1) rest)) here
      (augments-are (done ++ row ∷ []) rest (k + 1) (omega (arith, length-append done (row ∷ []))) (is ∙ sym (append_assoc done (row ∷ []) rest)))

  pub calls-alone : Good (built stmts (rows_of stmts) (named_of stmts (rows_of stmts))).0
  calls-alone = (rounds-right (length (augments_of rows)) (trees_of stmts rows named, augments_of rows) (record { good = trees-good (length stmts); left = augments-are [] rows 0 refl refl })).good

  -- ---- after the nodes of an older version

  from-alone : (old : ℕ) (before : List TreeNode) → Good before → (n : ℕ) → Good (trees_from n stmts rows named old before)
  unfolding trees_from
  from-alone old before good zero = good
  from-alone old before good (suc n) =
      grow-good (2 * length rows) (old + n) None (trees_from n stmts rows named old before) (seeds_in rows named None (top_of stmts (old + n))) (top-suit (nodes_in rows named (top_of stmts (old + n))) (seeds-fit rows named None (top_of stmts (old + n)))) (from-alone old before good n)

  new-are : (old : ℕ) (done rest : List TreeRow) (k : ℕ) → k ≡ length done → rows ≡ done ++ rest → IsTrue (list_all is_augment (flat_map (λ (entry : ℕ × TreeRow). new_augment_at old entry.0 entry.1) (enumerate_from k rest)))
  new-are old done [] k count is = refl
  new-are old done (row ∷ rest) k count is =
      let at : slice_get rows k ≡ Some row = ap (λ (xs : List TreeRow). slice_get xs k) is ∙ middle-got done rest row k count in
      let own : IsTrue (list_all is_augment (augment_at k row)) = elim (cases_Bool (same_keyword row.keyword word.Augment)) [
        | inl t ↦ rw t (both (is_augment k) true (ap (λ (o : Option TreeRow). is_keyword word.Augment (option_map (λ (row : TreeRow). row.keyword) o)) at ∙ t) refl)
        | inr f ↦ rw f refl
      ] in
      let here : IsTrue (list_all is_augment (new_augment_at old k row)) = elim (cases_Bool (nat_le old row.module)) [ inl t ↦ rw t own | inr f ↦ rw f refl ] in
      all-joined is_augment (new_augment_at old k row) (flat_map (λ (entry : ℕ × TreeRow). new_augment_at old entry.0 entry.1) (enumerate_from (k + 1) rest)) here
      (new-are old (done ++ row ∷ []) rest (k + 1) (omega (arith, length-append done (row ∷ []))) (is ∙ sym (append_assoc done (row ∷ []) rest)))

  pub on-alone : (old : ℕ) (before : List TreeNode) → Good before → Good (nodes_on stmts old before).0
  on-alone old before good =
      (rounds-right (length (new_augments old rows)) (trees_from (length stmts - old) stmts rows named old before, new_augments old rows) (record { good = from-alone old before good (length stmts - old); left = new-are old [] rows 0 refl refl })).good
