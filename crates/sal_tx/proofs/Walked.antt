-- The walk down a tree finds the missing parent.
use Rattle.std.proofs.Common.{◌≡◌, ℕ, suc, ◌+◌, ◌-◌, Bool, true, false, cond, not, ◌&&◌, List, [], ◌∷◌, length, take, map, Option, Some, None, sym, refl, ap, ◌∙◌, add-one, arith}
use Rattle.std.specs.Prelude.{find, option_map}
use Rattle.std.specs.List.{slice_get}
use Rattle.sal_types.specs.declared.value.Step.{Step}
use Rattle.sal_node.specs.Tree.{Tree, IsGrove}
use Rattle.sal_tree.specs.Grow.{at, kid, present}
use Rattle.sal_tree.specs.Rows.{rows_of}
use Rattle.sal_tree.proofs.Cells.{has-rows_of}
use Rattle.sal_schema.specs.declared.table.SchemaTable.{SchemaTable}
use Rattle.sal_schema.specs.Fitting.{has_mark}
use Rattle.sal_schema.specs.Paths.{last_step}
use Rattle.sal_rules.specs.Refusals.{above, missing_parent}
use Rattle.sal_tx.specs.Walk.{missing_depth}

last_step-cons : (s t : Step) (q : List Step) → last_step (s ∷ t ∷ q) ≡ last_step (t ∷ q)
last_step-cons s t q =
    let e : length (s ∷ t ∷ q) - 1 ≡ suc (length (t ∷ q) - 1) = omega arith in
    ap (slice_get (s ∷ t ∷ q)) e

-- each of the paths has a step
abbrev AllFilled : List (List Step) → Type 0
AllFilled [] = Unit {0}
AllFilled ([] ∷ qs) = ⊥
AllFilled ((t ∷ q) ∷ qs) = AllFilled qs

filled-map : (s : Step) (qs : List (List Step)) → AllFilled (map (λ q. s ∷ q) qs)
filled-map s [] = tt
filled-map s (q ∷ qs) = filled-map s qs

filled-above : (path : List Step) → AllFilled (above path)
filled-above [] = tt
filled-above (s ∷ []) = tt
filled-above (s ∷ n ∷ path) = filled-map s (above (n ∷ path))

option_map-cond : {X Y : Type 0} (f : X → Y) (b : Bool) (x : X) (r : Option X) → option_map f (cond b (Some x) r) ≡ cond b (Some (f x)) (option_map f r)
option_map-cond f true x r = refl
option_map-cond f false x r = refl

module _ (table : SchemaTable) where
  -- an entry or presence container that is not there
  abbrev gone : Option Tree → List Step → Bool
  gone o q = has_mark table (last_step q) && not (present (at o q))

  find-below : (o : Option Tree) (s : Step) (qs : List (List Step)) → AllFilled qs
      → find (gone o) (map (λ q. s ∷ q) qs) ≡ option_map (λ q. s ∷ q) (find (gone (kid o s)) qs)
  find-below o s [] filled = refl
  find-below o s ([] ∷ qs) filled = absurd filled
  find-below o s ((t ∷ q) ∷ qs) filled =
      let same : gone o (s ∷ t ∷ q) ≡ gone (kid o s) (t ∷ q) = ap (λ l. has_mark table l && not (present (at (kid o s) (t ∷ q)))) (last_step-cons s t q) in
      let rest = find-below o s qs filled in
      ap (λ b. cond b (Some (s ∷ t ∷ q)) (find (gone o) (map (λ r. s ∷ r) qs))) same
      ∙ ap (cond (gone (kid o s) (t ∷ q)) (Some (s ∷ t ∷ q))) rest
      ∙ sym (option_map-cond (λ r. s ∷ r) (gone (kid o s) (t ∷ q)) (t ∷ q) (find (gone (kid o s)) qs))

  deeper : (s : Step) (path : List Step) (r : Option ℕ)
      → option_map (λ d. take d (s ∷ path)) (option_map (λ d. d + 1) r) ≡ option_map (λ q. s ∷ q) (option_map (λ d. take d path) r)
  deeper s path None = refl
  deeper s path (Some d) = ap (λ n. Some (take n (s ∷ path))) (add-one d)

  pub walked : (o : Option Tree) (path : List Step) → option_map (λ d. take d path) (missing_depth table o path) ≡ find (gone o) (above path)
  walked o [] = refl
  walked o (s ∷ []) = refl
  walked o (s ∷ n ∷ path) =
      let rest = deeper s (n ∷ path) (missing_depth table (kid o s) (n ∷ path)) ∙ ap (option_map (λ q. s ∷ q)) (walked (kid o s) (n ∷ path)) ∙ sym (find-below o s (above (n ∷ path)) (filled-above (n ∷ path))) in
      option_map-cond (λ d. take d (s ∷ n ∷ path)) (gone o (s ∷ [])) 1 (option_map (λ d. d + 1) (missing_depth table (kid o s) (n ∷ path)))
      ∙ ap (cond (gone o (s ∷ [])) (Some (s ∷ []))) rest

  pub missing_parent-walked : (t : Tree) (path : List Step) → IsGrove t.kids
      → option_map (λ d. take d path) (missing_depth table (Some t) path) ≡ missing_parent table (rows_of t) path
  missing_parent-walked t path grove =
      walked (Some t) path ∙ (λ i. find (λ q. has_mark table (last_step q) && not (sym (has-rows_of t grove q) i)) (above path))
