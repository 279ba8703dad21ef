-- Nodes of a table are below nodes that can have them as children: the same holds of their statements, and each node has its own statement.
use Rattle.sal_build.specs.Readable.{has_own_places}
use Rattle.sal_build.proofs.Grown.{AreGrown, built-grown}
use Rattle.std.proofs.Common.{◌≡◌, ℕ, ◌+◌, Bool, true, false, not, ◌&&◌, IsTrue, List, [], ◌∷◌, map, Option, Some, None, refl, sym, ap, ◌∙◌, subst}
use Rattle.std.specs.Prelude.{◌||◌, option_map, is_none}
use Rattle.std.specs.List.{list_all, slice_get}
use Rattle.std.specs.Option.{option_map_or}
use Rattle.sal_stmt.specs.declared.stmt.Stmt.{Stmt, out-Stmt}
use Rattle.sal_module.specs.declared.keyword.Keyword.{Keyword}
use Rattle.sal_module.specs.declared.keyword.Keyword.TheVariants as word
use Rattle.sal_module.specs.Keywords.{keyword_of}
use Rattle.sal_module.specs.Modules.{stmt_at}
use Rattle.sal_grouping.proofs.Parts.{TreeNode, TreeRow}
use Rattle.sal_grouping.specs.declared.forest.Implied.{Implied}
use Rattle.sal_grouping.specs.declared.forest.Implied.TheVariants as implied
use Rattle.sal_grouping.specs.Augments as tree
use Rattle.sal_grouping.specs.Expand.{branch_of, source_of, place_of}
use Rattle.sal_grouping.specs.Rows.{is_keyword, keyword_at, rows_of}
use Rattle.sal_schema.specs.declared.kind.Kind.{Kind}
use Rattle.sal_schema.specs.declared.table.NodeInfo.{NodeInfo}
use Rattle.sal_schema.specs.declared.table.SchemaTable.{SchemaTable}
use Rattle.sal_schema.specs.Kinds.{has_type, is_choice, is_case, is_rpc, is_notification, is_parameters}
use Rattle.sal_schema.specs.Table.{all_from}
use Rattle.sal_schema.specs.Valid.{agree, is_under, stands_right}
use Rattle.sal_schema.proofs.Conjuncts.{and_first, and_second}
use Rattle.sal_module_table.specs.Nodes.{kind_among, kind_in, has}
use Rattle.sal_module_table.specs.Nodes as nodes
use Rattle.sal_module_table.specs.Table.{info_of, infos_from}
use Rattle.sal_build.specs.Laws.{NodesStandRight}
use Rattle.sal_build.proofs.Built.{IsBuiltOn, built_on, nodes_of}
use Rattle.sal_build.proofs.DistinctNodes.{is_fit, nodes-fit, got-map, forest_of, table_over}
use Rattle.sal_build.proofs.HeldRows.{is_call, is_leafy, rows-held}
use Rattle.sal_build.proofs.LinkedNodes.{is_param, can_be_under, can_be_on_top, is_linked_in, nodes-linked}
use Rattle.sal_build.proofs.LoneCalls.{is_alone_in, calls-alone}
use Rattle.sal_build.proofs.NamedNodes.{none-fits}
use Rattle.sal_build.proofs.OwnStatements.{AreOwn, own-rows}
use Rattle.sal_build.proofs.Quiet.{both}
use Rattle.sal_build.proofs.Shapes.{is_before, is_seed, is_shape}
use Rattle.sal_build.proofs.TopCalls.{turned}
use Rattle.sal_build.proofs.Uniques.{info-got, at-place}
use Rattle.sal_build.proofs.Entries.{wrong}

-- ---- kinds and words

-- the kind is as the word says
record IsLike (kind : Kind) (keyword : Option Keyword) : Type 0 where
  typed : has_type kind ≡ is_leafy keyword
  choice : is_choice kind ≡ is_keyword word.Choice keyword
  cases : is_case kind ≡ is_keyword word.Case keyword
  rpc : is_rpc kind ≡ is_keyword word.Rpc keyword
  param : is_parameters kind ≡ is_param keyword
  call : (is_rpc kind || is_notification kind) ≡ is_call keyword

like-word : (presence : Bool) (keyword : Keyword) → IsTrue (is_shape (Some keyword)) → IsLike (kind_among presence (Some keyword)) (Some keyword)
like-word presence word.Container h = record { typed = refl; choice = refl; cases = refl; rpc = refl; param = refl; call = refl }
like-word presence word.Leaf h = record { typed = refl; choice = refl; cases = refl; rpc = refl; param = refl; call = refl }
like-word presence word.LeafList h = record { typed = refl; choice = refl; cases = refl; rpc = refl; param = refl; call = refl }
like-word presence word.List h = record { typed = refl; choice = refl; cases = refl; rpc = refl; param = refl; call = refl }
like-word presence word.Choice h = record { typed = refl; choice = refl; cases = refl; rpc = refl; param = refl; call = refl }
like-word presence word.Case h = record { typed = refl; choice = refl; cases = refl; rpc = refl; param = refl; call = refl }
like-word presence word.Rpc h = record { typed = refl; choice = refl; cases = refl; rpc = refl; param = refl; call = refl }
like-word presence word.Input h = record { typed = refl; choice = refl; cases = refl; rpc = refl; param = refl; call = refl }
like-word presence word.Output h = record { typed = refl; choice = refl; cases = refl; rpc = refl; param = refl; call = refl }
like-word presence word.Notification h = record { typed = refl; choice = refl; cases = refl; rpc = refl; param = refl; call = refl }
like-word presence keyword h = absurd (wrong h)

like-stmt : (keyword : Keyword) (stmt : Stmt) (side : Option Implied) → keyword_of (out-Stmt stmt).keyword ≡ Some keyword → IsTrue (is_seed side (Some keyword)) → IsLike (kind_in (Some stmt) side) (tree.kind_among (Some keyword) side)
like-stmt keyword stmt None e h = subst (λ (o : Option Keyword). IsLike (kind_among (has word.Presence (Some stmt)) o) (Some keyword)) (sym e) (like-word (has word.Presence (Some stmt)) keyword h)
like-stmt keyword stmt (Some implied.Case) e h = record { typed = refl; choice = refl; cases = refl; rpc = refl; param = refl; call = refl }
like-stmt keyword stmt (Some implied.Input) e h = record { typed = refl; choice = refl; cases = refl; rpc = refl; param = refl; call = refl }
like-stmt keyword stmt (Some implied.Output) e h = record { typed = refl; choice = refl; cases = refl; rpc = refl; param = refl; call = refl }

module _ (stmts : List Stmt) (owns : AreOwn stmts (rows_of stmts)) (all : List TreeNode) (grown : AreGrown stmts all) where
  abbrev rows : List TreeRow
  rows = rows_of stmts

  abbrev kind : TreeNode → Kind
  kind node = nodes.kind_of stmts (branch_of rows node)

  row-like : (k : ℕ) (side : Option Implied) (row : Option TreeRow) → slice_get rows k ≡ row → IsTrue (is_seed side (option_map (λ (row : TreeRow). row.keyword) row))
      → IsLike (kind_in (stmt_at stmts (source_of row) (place_of row)) side) (tree.kind_among (option_map (λ (row : TreeRow). row.keyword) row) side)
  row-like k side None e h = absurd (wrong (sym (none-fits side) ∙ h))
  row-like k side (Some row) e h =
      let own = owns k row e in
      subst (λ (o : Option Stmt). IsLike (kind_in o side) (tree.kind_among (Some row.keyword) side)) (sym own.found) (like-stmt row.keyword own.stmt side own.keyword h)

  like : (k : ℕ) (node : TreeNode) → IsTrue (is_fit stmts owns all grown k node) → IsLike (kind node) (tree.kind_of rows node)
  like k node fit = row-like node.row node.implied (slice_get rows node.row) refl (and_second (is_before k node.parent) (is_seed node.implied (keyword_at rows node.row)) fit)

  -- what is below it, by the kinds of both
  right-pair : (node above : TreeNode) → IsLike (kind node) (tree.kind_of rows node) → IsLike (kind above) (tree.kind_of rows above) → IsTrue (can_be_under (tree.kind_of rows above) (tree.kind_of rows node))
      → IsTrue ((not (has_type (kind above)) && agree (is_case (kind node)) (is_choice (kind above))) && agree (is_parameters (kind node)) (is_rpc (kind above)))
  right-pair node above below over h =
      (λ i. (not (over.typed i) && agree (below.cases i) (over.choice i)) && agree (below.param i) (over.rpc i)) ∙ h

  alone : (node : TreeNode) → IsLike (kind node) (tree.kind_of rows node) → IsTrue (is_alone_in rows node) → IsTrue (not (is_rpc (kind node) || is_notification (kind node)) || is_none node.parent)
  alone node seen h = ap (λ b. not b || is_none node.parent) seen.call ∙ turned (is_none node.parent) (is_call (tree.kind_of rows node)) h

  abbrev fits_there : NodeInfo → Bool
  fits_there info = (not (is_under has_type (table_over stmts all) info) && agree (is_case info.kind) (is_under is_choice (table_over stmts all) info)) && agree (is_parameters info.kind) (is_under is_rpc (table_over stmts all) info)

  -- with the parent that was found
  below-right : (k : ℕ) (node : TreeNode) (parent : Option ℕ) → node.parent ≡ parent → IsLike (kind node) (tree.kind_of rows node)
      → IsTrue (option_map_or (λ p. option_map_or (λ (above : TreeNode). can_be_under (tree.kind_of rows above) (tree.kind_of rows node)) (slice_get all p) false) parent (can_be_on_top (tree.kind_of rows node)))
      → IsTrue (fits_there (info_of stmts (forest_of stmts all) k (branch_of rows node)))
  below-right k node None e seen h =
      let cases = and_first (not (is_keyword word.Case (tree.kind_of rows node))) (not (is_param (tree.kind_of rows node))) h in
      let param = and_second (not (is_keyword word.Case (tree.kind_of rows node))) (not (is_param (tree.kind_of rows node))) h in
      let top : IsTrue (agree (is_case (kind node)) false && agree (is_parameters (kind node)) false) =
      both (agree (is_case (kind node)) false) (agree (is_parameters (kind node)) false) (ap (λ b. agree b false) seen.cases ∙ neither (is_keyword word.Case (tree.kind_of rows node)) cases)
      (ap (λ b. agree b false) seen.param ∙ neither (is_param (tree.kind_of rows node)) param) in
      rw e top
    where
      neither : (b : Bool) → IsTrue (not b) → IsTrue (agree b false)
      neither true h = h
      neither false h = refl
  below-right k node (Some p) e seen h =
      elim (slice_get all p) as (λ o. slice_get all p ≡ o → IsTrue (option_map_or (λ (above : TreeNode). can_be_under (tree.kind_of rows above) (tree.kind_of rows node)) o false) → IsTrue (fits_there (info_of stmts (forest_of stmts all) k (branch_of rows node)))) [
        | None ↦ λ at h. absurd (wrong h)
        | Some above ↦ λ at h.
            let fit : IsTrue (is_fit stmts owns all grown (0 + p) above) = at-place (is_fit stmts owns all grown) 0 p all above (nodes-fit stmts owns all grown) at in
            let info = info-got stmts (forest_of stmts all) 0 p (forest_of stmts all) (branch_of rows above) (got-map (branch_of rows) all p above at) in
            let over = λ (test : Kind → Bool). ap (λ (o : Option NodeInfo). option_map_or test (option_map (λ (info : NodeInfo). info.kind) o) false) info in
            let pair = right-pair node above seen (like (0 + p) above fit) h in
            rw e ((λ i. (not (over has_type i) && agree (is_case (kind node)) (over is_choice i)) && agree (is_parameters (kind node)) (over is_rpc i)) ∙ pair)
      ] refl h

  infos-right : (k : ℕ) (some : List TreeNode) → IsTrue (all_from (is_fit stmts owns all grown) k some) → IsTrue (list_all (is_alone_in rows) some) → IsTrue (list_all (is_linked_in rows all) some)
      → IsTrue (list_all (stands_right (table_over stmts all)) (infos_from stmts (forest_of stmts all) k (map (branch_of rows) some)))
  infos-right k [] fit lone linked = refl
  infos-right k (node ∷ some) fit lone linked =
      let here = and_first (is_fit stmts owns all grown k node) (all_from (is_fit stmts owns all grown) (k + 1) some) fit in
      let seen = like k node here in
      let info = info_of stmts (forest_of stmts all) k (branch_of rows node) in
      let placed : IsTrue (fits_there info) = below-right k node node.parent refl seen (and_first (is_linked_in rows all node) (list_all (is_linked_in rows all) some) linked) in
      let top = alone node seen (and_first (is_alone_in rows node) (list_all (is_alone_in rows) some) lone) in
      both (stands_right (table_over stmts all) info) (list_all (stands_right (table_over stmts all)) (infos_from stmts (forest_of stmts all) (k + 1) (map (branch_of rows) some))) (both (fits_there info) (not (is_rpc (kind node) || is_notification (kind node)) || is_none node.parent) placed top)
      (infos-right (k + 1) some (and_second (is_fit stmts owns all grown k node) (all_from (is_fit stmts owns all grown) (k + 1) some) fit) (and_second (is_alone_in rows node) (list_all (is_alone_in rows) some) lone)
      (and_second (is_linked_in rows all node) (list_all (is_linked_in rows all) some) linked))

pub nodes-stand-right-on : (stmts : List Stmt) (nodes : List TreeNode) (table : SchemaTable) → IsTrue (list_all has_own_places stmts) → IsBuiltOn stmts nodes table → AreGrown stmts nodes → IsTrue (list_all (is_alone_in (rows_of stmts)) nodes) → IsTrue (list_all (is_linked_in (rows_of stmts) nodes) nodes)
    → IsTrue (list_all (stands_right table) table.nodes)
nodes-stand-right-on stmts nodes table differ built grown lone linked =
    let owns = own-rows stmts differ built.checked.profile in
    subst (λ (t : SchemaTable). IsTrue (list_all (stands_right t) t.nodes)) built.is
    (infos-right stmts owns nodes grown 0 nodes (nodes-fit stmts owns nodes grown) lone linked)

pub nodes_stand_right : NodesStandRight
nodes_stand_right stmts table differ e = nodes-stand-right-on stmts (nodes_of stmts) table differ (built_on stmts table e) (built-grown stmts) (calls-alone stmts (rows-held stmts (built_on stmts table e).checked.profile)) (nodes-linked stmts (rows-held stmts (built_on stmts table e).checked.profile) (built_on stmts table e).checked.profile)
