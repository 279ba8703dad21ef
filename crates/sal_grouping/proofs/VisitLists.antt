-- Blocks that are gone through, from one statement to the next.
use Rattle.std.proofs.Common.{◌≡◌, ℕ, zero, suc, ◌+◌, ◌-◌, ◌<◌, List, [], ◌∷◌, ◌++◌, drop, Bool, true, false, not, get_or, Option, Some, None, unwrap_or, refl, sym, ap, ◌∙◌, arith, append_assoc, append-nil}
use Rattle.std.proofs.lemmas.Bool.{and_parts}
use Rattle.std.specs.List.{flat_map, list_all, slice_get}
use Rattle.sal_grouping.specs.declared.rows.Row.{Row}
use Rattle.sal_grouping.specs.declared.nodes.Visit.{Visit}
use Rattle.sal_grouping.specs.Rows.{inside, keyword_at}
use Rattle.sal_grouping.specs.Growth.{is_node, used_by, nodes_at, nodes_within}
use Rattle.sal_grouping.specs.Plan.{is_bare, AreBare}
use Rattle.sal_grouping.specs.Visits.{left_of, all_left, steps_at, steps_within, steps_of, all_steps}
use Rattle.sal_grouping.proofs.IndexLists.{not-true}

-- ---- lists

drop-some : {X : Type 0} (xs : List X) (i : ℕ) (x : X) → slice_get xs i ≡ Some x → drop i xs ≡ x ∷ drop (i + 1) xs
drop-some [] i x e = cc
drop-some (y ∷ xs) zero x e = let is : y ≡ x = cc in λ i. is i ∷ xs
drop-some (y ∷ xs) (suc i) x e = let more : suc i + 1 ≡ suc (i + 1) = omega arith in rw more (drop-some xs i x e)

drop-none : {X : Type 0} (xs : List X) (i : ℕ) → slice_get xs i ≡ None → drop i xs ≡ []
drop-none [] zero e = refl
drop-none [] (suc i) e = refl
drop-none (y ∷ xs) zero e = cc
drop-none (y ∷ xs) (suc i) e = drop-none xs i e

none-map : (f : ℕ → List ℕ) (p : ℕ → Bool) → ((k : ℕ) → p k ≡ true → f k ≡ []) → (xs : List ℕ) → list_all p xs ≡ true → flat_map f xs ≡ []
none-map f p each [] all = refl
none-map f p each (x ∷ xs) all =
    let (one, more) = and_parts (p x) (list_all p xs) all in
    rw (each x one) (none-map f p each xs more)

-- ---- the nodes that a statement adds

module _ (f : ℕ → List ℕ) (rows : List Row) (named : List (Option ℕ)) (k : ℕ) where
  pub at-node : is_node (keyword_at rows k) ≡ true → nodes_at f rows named k ≡ k ∷ []
  at-node e = rw e refl

  pub at-uses : is_node (keyword_at rows k) ≡ false → (g : ℕ) → Some g ≡ unwrap_or (slice_get named k) None → nodes_at f rows named k ≡ f g
  at-uses e g is = rw (e, ← is) (append-nil (f g))

  pub at-none : is_node (keyword_at rows k) ≡ false → None ≡ unwrap_or (slice_get named k) None → nodes_at f rows named k ≡ []
  at-none e is = rw (e, ← is) refl

-- ---- blocks without nodes

module _ (rows : List Row) (named : List (Option ℕ)) (bare : List Bool) (are : AreBare rows named bare) where
  bare-at : (f : ℕ → List ℕ) → ((g : ℕ) → get_or bare g false ≡ true → f g ≡ []) → (k : ℕ) → is_bare rows named bare k ≡ true → nodes_at f rows named k ≡ []
  bare-at f each k b =
      let (no_node, used) = and_parts (not (is_node (keyword_at rows k))) (list_all (λ g. get_or bare g false) (used_by named k)) b in
      rw (not-true (is_node (keyword_at rows k)) no_node) (none-map f (λ g. get_or bare g false) each (used_by named k) used)

  pub bare-none : (n g : ℕ) → get_or bare g false ≡ true → nodes_within n rows named g ≡ []
  unfolding nodes_within
  bare-none zero g h = refl
  bare-none (suc n) g h = none-map (nodes_at (nodes_within n rows named) rows named) (is_bare rows named bare) (bare-at (nodes_within n rows named) (bare-none n)) (inside rows g) (are g h)

-- ---- visits

pub nodes-none : (rows : List Row) (named : List (Option ℕ)) (b : ℕ) → nodes_within 0 rows named b ≡ []
unfolding nodes_within
nodes-none rows named b = refl

nodes-suc : (n : ℕ) (rows : List Row) (named : List (Option ℕ)) (b : ℕ) → left_of rows named (record { block = b; next = 0; levels = n }) ≡ nodes_within (suc n) rows named b
unfolding nodes_within
nodes-suc n rows named b = refl

pub nodes-visit : (n : ℕ) (rows : List Row) (named : List (Option ℕ)) (b : ℕ) → 0 < n → left_of rows named (record { block = b; next = 0; levels = n - 1 }) ≡ nodes_within n rows named b
nodes-visit zero rows named b h = absurd (omega arith)
nodes-visit (suc n) rows named b h = let less : suc n - 1 ≡ n = omega arith in rw less (nodes-suc n rows named b)

pub visit-none : (rows : List Row) (named : List (Option ℕ)) (v : Visit) → slice_get (inside rows v.block) v.next ≡ None → left_of rows named v ≡ []
visit-none rows named v e = rw (drop-none (inside rows v.block) v.next e) refl

pub visit-some : (rows : List Row) (named : List (Option ℕ)) (v : Visit) (k : ℕ) → slice_get (inside rows v.block) v.next ≡ Some k
    → left_of rows named v ≡ nodes_at (nodes_within v.levels rows named) rows named k ++ left_of rows named (record { block = v.block; next = v.next + 1; levels = v.levels })
visit-some rows named v k e = rw (drop-some (inside rows v.block) v.next k e) refl

pub all_left-last : (rows : List Row) (named : List (Option ℕ)) (visits : List Visit) (v : Visit) → all_left rows named (visits ++ v ∷ []) ≡ left_of rows named v ++ all_left rows named visits
all_left-last rows named [] v = sym (append-nil (left_of rows named v))
all_left-last rows named (u ∷ visits) v =
    ap (λ l. l ++ left_of rows named u) (all_left-last rows named visits v) ∙ append_assoc (left_of rows named v) (all_left rows named visits) (left_of rows named u)

-- ---- one statement

found-now : (out c rest all : List ℕ) → (out ++ c) ++ (rest ++ all) ≡ out ++ ((c ++ rest) ++ all)
found-now out c rest all = simp append_assoc

found-later : (out c rest all : List ℕ) → out ++ (c ++ (rest ++ all)) ≡ out ++ ((c ++ rest) ++ all)
found-later out c rest all = simp append_assoc

module _ (rows : List Row) (named : List (Option ℕ)) (v : Visit) (k : ℕ) (visits pushed : List Visit) (out : List ℕ) (at : slice_get (inside rows v.block) v.next ≡ Some k)
    (push : pushed ≡ visits ++ record { block = v.block; next = v.next + 1; levels = v.levels } ∷ []) where
  abbrev after : Visit
  after = record { block = v.block; next = v.next + 1; levels = v.levels }

  left-pushed : all_left rows named pushed ≡ left_of rows named after ++ all_left rows named visits
  left-pushed = ap (all_left rows named) push ∙ all_left-last rows named visits after

  -- its nodes are before the remaining ones
  pub step-later : (later : List Visit) (c : List ℕ) → nodes_at (nodes_within v.levels rows named) rows named k ≡ c → all_left rows named later ≡ c ++ all_left rows named pushed
      → out ++ all_left rows named later ≡ out ++ (left_of rows named v ++ all_left rows named visits)
  step-later later c is left =
      ap (λ l. out ++ l) (left ∙ ap (λ l. c ++ l) left-pushed) ∙ found-later out c (left_of rows named after) (all_left rows named visits)
      ∙ ap (λ l. out ++ ((l ++ left_of rows named after) ++ all_left rows named visits)) (sym is)
      ∙ ap (λ l. out ++ (l ++ all_left rows named visits)) (sym (visit-some rows named v k at))

  -- it is a node
  pub step-now : (found : List ℕ) → is_node (keyword_at rows k) ≡ true → found ≡ out ++ k ∷ []
      → found ++ all_left rows named pushed ≡ out ++ (left_of rows named v ++ all_left rows named visits)
  step-now found node put =
      ap (λ l. l ++ all_left rows named pushed) put ∙ ap (λ l. (out ++ k ∷ []) ++ l) left-pushed ∙ found-now out (k ∷ []) (left_of rows named after) (all_left rows named visits)
      ∙ ap (λ l. out ++ ((l ++ left_of rows named after) ++ all_left rows named visits)) (sym (at-node (nodes_within v.levels rows named) rows named k node))
      ∙ ap (λ l. out ++ (l ++ all_left rows named visits)) (sym (visit-some rows named v k at))

-- ---- how many steps are left

pub steps-none : (rows : List Row) (named : List (Option ℕ)) (b : ℕ) → steps_within 0 rows named b ≡ 0
unfolding steps_within
steps-none rows named b = refl

steps-suc : (n : ℕ) (rows : List Row) (named : List (Option ℕ)) (b : ℕ) → steps_of rows named (record { block = b; next = 0; levels = n }) ≡ steps_within (suc n) rows named b
unfolding steps_within
steps-suc n rows named b = refl

pub steps-visit : (n : ℕ) (rows : List Row) (named : List (Option ℕ)) (b : ℕ) → 0 < n → steps_of rows named (record { block = b; next = 0; levels = n - 1 }) ≡ steps_within n rows named b
steps-visit zero rows named b h = absurd (omega arith)
steps-visit (suc n) rows named b h = let less : suc n - 1 ≡ n = omega arith in rw less (steps-suc n rows named b)

pub all_steps-last : (rows : List Row) (named : List (Option ℕ)) (visits : List Visit) (v : Visit) → all_steps rows named (visits ++ v ∷ []) ≡ steps_of rows named v + all_steps rows named visits
all_steps-last rows named [] v = refl
all_steps-last rows named (u ∷ visits) v = omega (arith, all_steps-last rows named visits v)

steps-some : (rows : List Row) (named : List (Option ℕ)) (v : Visit) (k : ℕ) → slice_get (inside rows v.block) v.next ≡ Some k
    → steps_of rows named v ≡ suc (steps_at (steps_within v.levels rows named) named k + steps_of rows named (record { block = v.block; next = v.next + 1; levels = v.levels }))
steps-some rows named v k e = rw (drop-some (inside rows v.block) v.next k e) (omega arith)

module _ (rows : List Row) (named : List (Option ℕ)) (v : Visit) (k : ℕ) (visits pushed : List Visit) (at : slice_get (inside rows v.block) v.next ≡ Some k)
    (push : pushed ≡ visits ++ record { block = v.block; next = v.next + 1; levels = v.levels } ∷ []) where
  -- one statement less, and nothing in its place
  pub steps-less : all_steps rows named pushed < steps_of rows named v + all_steps rows named visits
  steps-less = omega (arith, ap (all_steps rows named) push, all_steps-last rows named visits (record { block = v.block; next = v.next + 1; levels = v.levels }), steps-some rows named v k at)

  -- one statement less, and the grouping that it names
  pub steps-used : (g : ℕ) → Some g ≡ unwrap_or (slice_get named k) None → (later : List Visit) → all_steps rows named later ≡ steps_within v.levels rows named g + all_steps rows named pushed
      → all_steps rows named later < steps_of rows named v + all_steps rows named visits
  steps-used g is later more =
      let one : steps_at (steps_within v.levels rows named) named k ≡ suc (steps_within v.levels rows named g + 0) = rw (← is) refl in
      omega (arith, more, one, ap (all_steps rows named) push, all_steps-last rows named visits (record { block = v.block; next = v.next + 1; levels = v.levels }), steps-some rows named v k at)
