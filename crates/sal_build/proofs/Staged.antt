-- The nodes of a version are grown: a property of each node that grows, at any number, holds of them; each is where it is allowed; and RPCs
-- and notifications are at the top level. The nodes of an older version are grown by the statements of a later one too.
use Rattle.std.proofs.Common.{◌≡◌, ℕ, ◌+◌, Bool, false, not, IsTrue, List, [], ◌∷◌, ◌++◌, fold, length, Option, Some, None, refl, sym, ap, ◌∙◌, subst, arith, length-append}
use Rattle.std.specs.Prelude.{◌||◌, option_map, is_none}
use Rattle.std.specs.List.{list_all, flat_map, slice_get, enumerate_from}
use Rattle.std.specs.Option.{option_map_or}
use Rattle.sal_stmt.specs.declared.stmt.Stmt.{Stmt}
use Rattle.sal_module.specs.declared.keyword.Keyword.{Keyword}
use Rattle.sal_module.specs.Profile.{module_faults}
use Rattle.sal_grouping.proofs.Parts.{TreeNode, TreeRow}
use Rattle.sal_grouping.specs.Augments.{kind_of, kind_among}
use Rattle.sal_grouping.specs.Growth.{Seed}
use Rattle.sal_grouping.specs.Rows.{with_rows, rows_of, keyword_at}
use Rattle.sal_grouping.specs.Versions.{nodes_on}
use Rattle.sal_schema.specs.Table.{all_from}
use Rattle.sal_schema.proofs.Conjuncts.{and_first, and_second}
use Rattle.sal_build.proofs.Built.{nodes_of}
use Rattle.sal_build.proofs.Grown.{AreGrown, built-good, on-good}
use Rattle.sal_build.proofs.HeldRows.{AreHeld, is_call, fold-stable, tree-stable}
use Rattle.sal_build.proofs.LinkedNodes.{can_be_under, can_be_on_top, is_linked_in, nodes-linked, on-linked}
use Rattle.sal_build.proofs.LoneCalls.{is_alone_in, calls-alone, on-alone, got-all}
use Rattle.sal_build.proofs.NamedNodes.{none-fits}
use Rattle.sal_build.proofs.Quiet.{both}
use Rattle.sal_build.proofs.Shapes.{is_seed, fits}
use Rattle.sal_build.proofs.Entries.{wrong}

pub record IsGrown (stmts : List Stmt) (nodes : List TreeNode) : Type 0 where
  pub each : AreGrown stmts nodes
  pub linked : IsTrue (list_all (is_linked_in (rows_of stmts) nodes) nodes)
  pub alone : IsTrue (list_all (is_alone_in (rows_of stmts)) nodes)

abbrev pub AreQuiet : List Stmt → Type 0
AreQuiet stmts = flat_map (λ (e : ℕ × Stmt). module_faults e.0 e.1) (enumerate_from 0 stmts) ≡ []

-- the first version
pub first-grown : (stmts : List Stmt) → AreHeld (rows_of stmts) → AreQuiet stmts → IsGrown stmts (nodes_of stmts)
first-grown stmts held quiet = record {
  each = λ test h. built-good test stmts h;
  linked = nodes-linked stmts held quiet;
  alone = calls-alone stmts held;
}

-- ---- rows of more statements

abbrev step : List TreeRow → ℕ × Stmt → List TreeRow
step rows e = with_rows 64 e.0 None rows e.1

stays-from : (n : ℕ) (first rest : List Stmt) (rows : List TreeRow) (k : ℕ) (row : TreeRow) → slice_get (fold step rows (enumerate_from n first)) k ≡ Some row → slice_get (fold step rows (enumerate_from n (first ++ rest))) k ≡ Some row
stays-from n [] rest rows k row at = fold-stable step k row (λ below e here. tree-stable e.0 64 None below e.1 k row here) rows (enumerate_from n rest) at
stays-from n (stmt ∷ first) rest rows k row at = stays-from (n + 1) first rest (with_rows 64 n None rows stmt) k row at

pub row-stays : (first rest : List Stmt) (k : ℕ) (row : TreeRow) → slice_get (rows_of first) k ≡ Some row → slice_get (rows_of (first ++ rest)) k ≡ Some row
row-stays first rest k row at = stays-from 0 first rest [] k row at

module _ (first rest : List Stmt) where
  abbrev old_rows : List TreeRow
  old_rows = rows_of first

  abbrev all_rows : List TreeRow
  all_rows = rows_of (first ++ rest)

  word-stays : (k : ℕ) (w : Keyword) → keyword_at old_rows k ≡ Some w → keyword_at all_rows k ≡ Some w
  word-stays k w e =
      elim (slice_get old_rows k) as (λ o. slice_get old_rows k ≡ o → option_map (λ (row : TreeRow). row.keyword) o ≡ Some w → keyword_at all_rows k ≡ Some w) [
        | None ↦ λ at e. let no : ◌≡◌ {A = Option Keyword} None (Some w) = e in absurd (nothing w no)
        | Some row ↦ λ at e. ap (option_map (λ (row : TreeRow). row.keyword)) (row-stays first rest k row at) ∙ e
      ] refl e
    where
      nothing : (w : Keyword) → ◌≡◌ {A = Option Keyword} None (Some w) → ⊥
      nothing w e = cc

  -- what fits has a statement
  worded : {P : Type 0} (seed : Seed) → IsTrue (fits old_rows seed) → ((w : Keyword) → keyword_at old_rows seed.0 ≡ Some w → P) → P
  worded {P} seed h next =
      elim (keyword_at old_rows seed.0) as (λ o. keyword_at old_rows seed.0 ≡ o → IsTrue (is_seed seed.1 o) → P) [
        | None ↦ λ at h. absurd (wrong (sym (none-fits seed.1) ∙ h))
        | Some w ↦ λ at h. next w at
      ] refl h

  fits-stay : (seed : Seed) → IsTrue (fits old_rows seed) → IsTrue (fits all_rows seed)
  fits-stay seed h = worded seed h (λ w at. subst (λ o. IsTrue (is_seed seed.1 o)) (at ∙ sym (word-stays seed.0 w at)) h)

  -- the statement of a node that was grown
  abbrev is_worded : ℕ → TreeNode → Bool
  is_worded k node = is_seed node.implied (keyword_at old_rows node.row)

  kind-stays : (node : TreeNode) → IsTrue (is_seed node.implied (keyword_at old_rows node.row)) → kind_of all_rows node ≡ kind_of old_rows node
  kind-stays node h = worded (node.row, node.implied) h (λ w at. ap (λ o. kind_among o node.implied) (word-stays node.row w at ∙ sym at))

  all-of : (i : ℕ) (nodes : List TreeNode) → IsTrue (all_from is_worded i nodes) → IsTrue (list_all (is_worded 0) nodes)
  all-of i [] h = refl
  all-of i (node ∷ nodes) h = both (is_worded 0 node) (list_all (is_worded 0) nodes) (and_first (is_worded i node) (all_from is_worded (i + 1) nodes) h) (all-of (i + 1) nodes (and_second (is_worded i node) (all_from is_worded (i + 1) nodes) h))

  module _ (forest : List TreeNode) (worded_all : IsTrue (list_all (is_worded 0) forest)) where
    linked-one : (node : TreeNode) → kind_of all_rows node ≡ kind_of old_rows node → IsTrue (is_linked_in old_rows forest node) → IsTrue (is_linked_in all_rows forest node)
    linked-one node own h =
        elim node.parent as (λ o. IsTrue (option_map_or (λ p. option_map_or (λ (above : TreeNode). can_be_under (kind_of old_rows above) (kind_of old_rows node)) (slice_get forest p) false) o (can_be_on_top (kind_of old_rows node)))
        → IsTrue (option_map_or (λ p. option_map_or (λ (above : TreeNode). can_be_under (kind_of all_rows above) (kind_of all_rows node)) (slice_get forest p) false) o (can_be_on_top (kind_of all_rows node)))) [
          | None ↦ λ h. ap can_be_on_top own ∙ h
          | Some p ↦
              (elim (slice_get forest p) as (λ o. slice_get forest p ≡ o → IsTrue (option_map_or (λ (above : TreeNode). can_be_under (kind_of old_rows above) (kind_of old_rows node)) o false)
              → IsTrue (option_map_or (λ (above : TreeNode). can_be_under (kind_of all_rows above) (kind_of all_rows node)) o false)) [
                | None ↦ λ at h. h
                | Some above ↦ λ at h. (let over = kind-stays above (got-all (is_worded 0) forest p above worded_all at) in λ i. can_be_under (over i) (own i)) ∙ h
              ] refl)
        ] h

    linked-all : (some : List TreeNode) → IsTrue (list_all (is_worded 0) some) → IsTrue (list_all (is_linked_in old_rows forest) some) → IsTrue (list_all (is_linked_in all_rows forest) some)
    linked-all [] h k = refl
    linked-all (node ∷ some) h k =
        both (is_linked_in all_rows forest node) (list_all (is_linked_in all_rows forest) some)
        (linked-one node (kind-stays node (and_first (is_worded 0 node) (list_all (is_worded 0) some) h)) (and_first (is_linked_in old_rows forest node) (list_all (is_linked_in old_rows forest) some) k))
        (linked-all some (and_second (is_worded 0 node) (list_all (is_worded 0) some) h) (and_second (is_linked_in old_rows forest node) (list_all (is_linked_in old_rows forest) some) k))

  alone-all : (some : List TreeNode) → IsTrue (list_all (is_worded 0) some) → IsTrue (list_all (is_alone_in old_rows) some) → IsTrue (list_all (is_alone_in all_rows) some)
  alone-all [] h k = refl
  alone-all (node ∷ some) h k =
      let kind = kind-stays node (and_first (is_worded 0 node) (list_all (is_worded 0) some) h) in
      both (is_alone_in all_rows node) (list_all (is_alone_in all_rows) some) (ap (λ w. is_none node.parent || not (is_call w)) kind ∙ and_first (is_alone_in old_rows node) (list_all (is_alone_in old_rows) some) k)
      (alone-all some (and_second (is_worded 0 node) (list_all (is_worded 0) some) h) (and_second (is_alone_in old_rows node) (list_all (is_alone_in old_rows) some) k))

  -- what was grown by the first statements was so by all
  pub older-grown : (nodes : List TreeNode) → IsGrown first nodes → IsGrown (first ++ rest) nodes
  older-grown nodes g =
      let count = length-append first rest in
      let own = all-of 0 nodes (g.each is_worded (λ owner k parent seed h before fit. fit)) in
      record {
        each = λ test h. g.each test (λ owner k parent seed low before fit. h owner k parent seed (omega arith) before (fits-stay seed fit));
        linked = linked-all nodes own nodes own g.linked;
        alone = alone-all nodes own g.alone;
      }

  -- and so is what grows after it
  pub next-grown : (nodes : List TreeNode) → AreHeld (rows_of (first ++ rest)) → AreQuiet (first ++ rest) → IsGrown first nodes → IsGrown (first ++ rest) (nodes_on (first ++ rest) (length first) nodes).0
  next-grown nodes held quiet g =
      let stmts = first ++ rest in
      let count = length-append first rest in
      let before = older-grown nodes g in
      record {
        each = λ test h. on-good test stmts h (length first) nodes (omega arith) (before.each test h);
        linked = on-linked stmts held quiet (length first) nodes (omega arith) before.linked;
        alone = on-alone stmts held (length first) nodes before.alone;
      }
