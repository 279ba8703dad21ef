-- The nodes that grow follow those that were there: they are added one at a time.
use Rattle.std.proofs.Common.{◌≡◌, ℕ, zero, suc, ◌+◌, ◌-◌, ◌*◌, ◌==◌, List, [], ◌∷◌, ◌++◌, fold, length, Option, Some, None, refl, sym, ap, ◌∙◌, subst, inl, inr, append_assoc, append-nil}
use Rattle.std.specs.Prelude.{option_and_then}
use Rattle.std.specs.List.{slice_get}
use Rattle.std.proofs.lemmas.Bool.{cases_Bool}
use Rattle.sal_stmt.specs.declared.stmt.Stmt.{Stmt}
use Rattle.sal_module.specs.declared.keyword.Keyword.{Keyword}
use Rattle.sal_grouping.proofs.Parts.{TreeNode, TreeRow}
use Rattle.sal_grouping.specs.Augments.{Progress, kind_of, can_hold, has_nodes, follow, carried_to, carried_at, carried, after_try, tried, round, rounds}
use Rattle.sal_grouping.specs.Frames.{with_seed}
use Rattle.sal_grouping.specs.Groupings.{path_of, named_of}
use Rattle.sal_grouping.specs.Growth.{Seed, below, node_of, grow, grown, seeds_in}
use Rattle.sal_grouping.specs.Rows.{rows_of, top_of}
use Rattle.sal_grouping.specs.Versions.{trees_from, new_augments, nodes_on}

module _ (P : List TreeNode → Type 0) (one : (f : List TreeNode) (node : TreeNode) → P f → P (f ++ node ∷ [])) where
  module _ (rows : List TreeRow) (named : List (Option ℕ)) where
    fold-keeps : (step : List TreeNode → Seed → List TreeNode) → ((f : List TreeNode) (seed : Seed) → P f → P (step f seed)) → (forest : List TreeNode) (seeds : List Seed) → P forest → P (fold step forest seeds)
    fold-keeps step each forest [] h = h
    fold-keeps step each forest (seed ∷ seeds) h = fold-keeps step each (step forest seed) seeds (each forest seed h)

    grow-keeps : (n owner : ℕ) (parent : Option ℕ) (forest : List TreeNode) (seeds : List Seed) → P forest → P (grow n rows named owner parent forest seeds)
    unfolding grow
    grow-keeps zero owner parent forest seeds h = h
    grow-keeps (suc n) owner parent forest seeds h =
        fold-keeps (with_seed n rows named owner parent) (λ f seed g. grow-keeps n owner (Some (length f)) (f ++ node_of owner parent seed ∷ []) (below rows named seed) (one f (node_of owner parent seed) g)) forest seeds h

    module _ (stmts : List Stmt) where
      from-keeps : (old n : ℕ) (before : List TreeNode) → P before → P (trees_from n stmts rows named old before)
      unfolding trees_from
      from-keeps old zero before h = h
      from-keeps old (suc n) before h = grow-keeps (2 * length rows) (old + n) None (trees_from n stmts rows named old before) (seeds_in rows named None (top_of stmts (old + n))) (from-keeps old n before h)

      carried-to : (owner k : ℕ) (forest : List TreeNode) (target : ℕ) (kind : Option Keyword) (f : List TreeNode) → P forest → carried_to rows named owner k forest target kind ≡ Some f → P f
      carried-to owner k forest target kind f h e = elim (cases_Bool (can_hold rows kind k (has_nodes rows named k))) [
        | inl holds ↦
            (let grew = rw holds at e in
            let is : grown rows named owner (Some target) forest (seeds_in rows named kind k) ≡ f = cc in
            subst P is (grow-keeps (2 * length rows) owner (Some target) forest (seeds_in rows named kind k) h))
        | inr fails ↦ let none = rw fails at e in cc
      ]

      carried-at : (owner k : ℕ) (forest : List TreeNode) (target : Option ℕ) (f : List TreeNode) → P forest → carried_at rows named owner k forest target ≡ Some f → P f
      carried-at owner k forest None f h e = cc
      carried-at owner k forest (Some target) f h e = carried-to owner k forest target (option_and_then (kind_of rows) (slice_get forest target)) f h e

      carried-keeps : (forest : List TreeNode) (k : ℕ) (row : Option TreeRow) (f : List TreeNode) → P forest → carried stmts rows named forest k row ≡ Some f → P f
      carried-keeps forest k None f h e = cc
      carried-keeps forest k (Some row) f h e = carried-at row.module k forest (follow rows forest None (path_of stmts row)) f h e

      after-keeps : (now : Progress) (k : ℕ) (c : Option (List TreeNode)) → P now.0 → ((f : List TreeNode) → c ≡ Some f → P f) → P (after_try now k c).0
      after-keeps now k None h next = h
      after-keeps now k (Some f) h next = next f refl

      tries-keep : (now : Progress) (ks : List ℕ) → P now.0 → P (fold (tried stmts rows named) now ks).0
      tries-keep now [] h = h
      tries-keep now (k ∷ ks) h =
          tries-keep (tried stmts rows named now k) ks (after-keeps now k (carried stmts rows named now.0 k (slice_get rows k)) h (λ f e. carried-keeps now.0 k (slice_get rows k) f h e))

      rounds-keep : (n : ℕ) (now : Progress) → P now.0 → P (rounds n stmts rows named now).0
      unfolding rounds
      rounds-keep zero now h = h
      rounds-keep (suc n) now h = elim (cases_Bool (length (round stmts rows named now).1 == length now.1)) [
        | inl holds ↦ rw holds (tries-keep (now.0, []) now.1 h)
        | inr fails ↦ rw fails (rounds-keep n (round stmts rows named now) (tries-keep (now.0, []) now.1 h))
      ]

  nodes-keep : (stmts : List Stmt) (old : ℕ) (before : List TreeNode) → P before → P (nodes_on stmts old before).0
  nodes-keep stmts old before h =
      let rows = rows_of stmts in
      let named = named_of stmts rows in
      rounds-keep rows named stmts (length (new_augments old rows)) (trees_from (length stmts - old) stmts rows named old before, new_augments old rows) (from-keeps rows named stmts old (length stmts - old) before h)

-- the nodes that were there, and more
pub record HasFront (front nodes : List TreeNode) : Type 0 where
  pub more : List TreeNode
  pub is : nodes ≡ front ++ more

pub grows : (stmts : List Stmt) (old : ℕ) (before : List TreeNode) → HasFront before (nodes_on stmts old before).0
grows stmts old before =
    nodes-keep (HasFront before) (λ f node h. record { more = h.more ++ node ∷ []; is = ap (λ xs. xs ++ node ∷ []) h.is ∙ append_assoc before h.more (node ∷ []) }) stmts old before
    (record { more = []; is = sym (append-nil before) })
