-- RPCs and notifications of a table are at the top level: the same holds of their statements, and each node has its own statement.
use Rattle.sal_build.specs.Readable.{has_own_places}
use Rattle.sal_build.proofs.Grown.{AreGrown, built-grown}
use Rattle.std.proofs.Common.{◌≡◌, ℕ, ◌+◌, Bool, true, false, not, IsTrue, List, [], ◌∷◌, map, Option, Some, None, refl, sym, ap, ◌∙◌, subst}
use Rattle.std.specs.Prelude.{◌||◌, option_map, is_none}
use Rattle.std.specs.List.{list_all, slice_get}
use Rattle.std.proofs.lemmas.Bool.{or_right}
use Rattle.sal_stmt.specs.declared.stmt.Stmt.{Stmt, out-Stmt}
use Rattle.sal_module.specs.declared.keyword.Keyword.{Keyword}
use Rattle.sal_module.specs.declared.keyword.Keyword.TheVariants as word
use Rattle.sal_module.specs.Keywords.{keyword_of}
use Rattle.sal_module.specs.Modules.{stmt_at}
use Rattle.sal_grouping.proofs.Parts.{TreeNode, TreeRow}
use Rattle.sal_grouping.specs.declared.forest.Branch.{Branch}
use Rattle.sal_grouping.specs.declared.forest.Implied.{Implied}
use Rattle.sal_grouping.specs.declared.forest.Implied.TheVariants as implied
use Rattle.sal_grouping.specs.Augments as tree
use Rattle.sal_grouping.specs.Expand.{branch_of, source_of, place_of}
use Rattle.sal_grouping.specs.Rows.{keyword_at, rows_of}
use Rattle.sal_schema.specs.declared.kind.Kind.{Kind}
use Rattle.sal_schema.specs.declared.table.SchemaTable.{SchemaTable}
use Rattle.sal_schema.specs.Kinds.{is_rpc, is_notification}
use Rattle.sal_schema.specs.Table.{all_from}
use Rattle.sal_schema.proofs.Conjuncts.{and_first, and_second}
use Rattle.sal_module_table.specs.Nodes.{kind_among, kind_in, has}
use Rattle.sal_module_table.specs.Nodes as nodes
use Rattle.sal_module_table.specs.Table.{infos_from}
use Rattle.sal_build.specs.Laws.{CallsStandAtTheTop, stands_at_the_top}
use Rattle.sal_build.proofs.Built.{IsBuiltOn, built_on, forest_by, nodes_of}
use Rattle.sal_build.proofs.DistinctNodes.{is_fit, nodes-fit}
use Rattle.sal_build.proofs.HeldRows.{is_call, rows-held}
use Rattle.sal_build.proofs.LoneCalls.{is_alone_in, calls-alone}
use Rattle.sal_build.proofs.NamedNodes.{none-fits}
use Rattle.sal_build.proofs.OwnStatements.{AreOwn, own-rows}
use Rattle.sal_build.proofs.Quiet.{both}
use Rattle.sal_build.proofs.Shapes.{is_before, is_seed, is_shape}
use Rattle.sal_build.proofs.Entries.{wrong}

abbrev is_operation : Kind → Bool
is_operation kind = is_rpc kind || is_notification kind

call-word : (presence : Bool) (keyword : Keyword) → IsTrue (is_shape (Some keyword)) → is_operation (kind_among presence (Some keyword)) ≡ is_call (Some keyword)
call-word presence word.Container h = refl
call-word presence word.Leaf h = refl
call-word presence word.LeafList h = refl
call-word presence word.List h = refl
call-word presence word.Choice h = refl
call-word presence word.Case h = refl
call-word presence word.Rpc h = refl
call-word presence word.Input h = refl
call-word presence word.Output h = refl
call-word presence word.Notification h = refl
call-word presence keyword h = absurd (wrong h)

seen-call : (keyword : Keyword) (stmt : Stmt) (side : Option Implied) → keyword_of (out-Stmt stmt).keyword ≡ Some keyword → IsTrue (is_seed side (Some keyword)) → is_operation (kind_in (Some stmt) side) ≡ is_call (tree.kind_among (Some keyword) side)
seen-call keyword stmt None e h = ap (λ k. is_operation (kind_among (has word.Presence (Some stmt)) k)) e ∙ call-word (has word.Presence (Some stmt)) keyword h
seen-call keyword stmt (Some implied.Case) e h = refl
seen-call keyword stmt (Some implied.Input) e h = refl
seen-call keyword stmt (Some implied.Output) e h = refl

pub turned : (a b : Bool) → IsTrue (a || not b) → IsTrue (not b || a)
turned true b h = or_right (not b) true refl
turned false true h = absurd (wrong h)
turned false false h = refl

module _ (stmts : List Stmt) (owns : AreOwn stmts (rows_of stmts)) (all : List TreeNode) (grown : AreGrown stmts all) where
  abbrev rows : List TreeRow
  rows = rows_of stmts

  row-call : (k : ℕ) (side : Option Implied) (row : Option TreeRow) → slice_get rows k ≡ row → IsTrue (is_seed side (option_map (λ (row : TreeRow). row.keyword) row))
      → is_operation (kind_in (stmt_at stmts (source_of row) (place_of row)) side) ≡ is_call (tree.kind_among (option_map (λ (row : TreeRow). row.keyword) row) side)
  row-call k side None e h = absurd (wrong (sym (none-fits side) ∙ h))
  row-call k side (Some row) e h =
      let own = owns k row e in
      subst (λ (o : Option Stmt). is_operation (kind_in o side) ≡ is_call (tree.kind_among (Some row.keyword) side)) (sym own.found) (seen-call row.keyword own.stmt side own.keyword h)

  infos-top : (forest : List Branch) (k : ℕ) (some : List TreeNode) → IsTrue (all_from (is_fit stmts owns all grown) k some) → IsTrue (list_all (is_alone_in rows) some)
      → IsTrue (list_all stands_at_the_top (infos_from stmts forest k (map (branch_of rows) some)))
  infos-top forest k [] fit alone = refl
  infos-top forest k (node ∷ some) fit alone =
      let here = and_first (is_fit stmts owns all grown k node) (all_from (is_fit stmts owns all grown) (k + 1) some) fit in
      let same = row-call node.row node.implied (slice_get rows node.row) refl (and_second (is_before k node.parent) (is_seed node.implied (keyword_at rows node.row)) here) in
      let one = turned (is_none node.parent) (is_call (tree.kind_of rows node)) (and_first (is_alone_in rows node) (list_all (is_alone_in rows) some) alone) in
      let top : IsTrue (not (is_operation (nodes.kind_of stmts (branch_of rows node))) || is_none node.parent) = ap (λ b. not b || is_none node.parent) same ∙ one in
      both (not (is_operation (nodes.kind_of stmts (branch_of rows node))) || is_none node.parent) (list_all stands_at_the_top (infos_from stmts forest (k + 1) (map (branch_of rows) some))) top
      (infos-top forest (k + 1) some (and_second (is_fit stmts owns all grown k node) (all_from (is_fit stmts owns all grown) (k + 1) some) fit) (and_second (is_alone_in rows node) (list_all (is_alone_in rows) some) alone))

pub calls-stand-at-the-top-on : (stmts : List Stmt) (nodes : List TreeNode) (table : SchemaTable) → IsTrue (list_all has_own_places stmts) → IsBuiltOn stmts nodes table → AreGrown stmts nodes → IsTrue (list_all (is_alone_in (rows_of stmts)) nodes)
    → IsTrue (list_all stands_at_the_top table.nodes)
calls-stand-at-the-top-on stmts nodes table differ built grown lone =
    let owns = own-rows stmts differ built.checked.profile in
    subst (λ (t : SchemaTable). IsTrue (list_all stands_at_the_top t.nodes)) built.is (infos-top stmts owns nodes grown (forest_by stmts nodes) 0 nodes (nodes-fit stmts owns nodes grown) lone)

pub calls_stand_at_the_top : CallsStandAtTheTop
calls_stand_at_the_top stmts table differ e = calls-stand-at-the-top-on stmts (nodes_of stmts) table differ (built_on stmts table e) (built-grown stmts) (calls-alone stmts (rows-held stmts (built_on stmts table e).checked.profile))
