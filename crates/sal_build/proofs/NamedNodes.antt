-- Nodes are named by identifiers: the statement of each is its own, and the profile says so.
use Rattle.sal_build.specs.Readable.{has_own_places}
use Rattle.std.proofs.Common.{◌≡◌, ℕ, ◌+◌, Bool, false, IsTrue, List, [], ◌∷◌, map, Option, Some, None, refl, sym, ap, ◌∙◌, subst}
use Rattle.std.specs.Prelude.{option_map, option_and_then, unwrap_or}
use Rattle.std.specs.List.{list_all, slice_get}
use Rattle.sal_stmt.specs.declared.stmt.Stmt.{Stmt, out-Stmt}
use Rattle.sal_module.specs.declared.argument.Form.TheVariants.{Identifier}
use Rattle.sal_module.specs.declared.keyword.Keyword.{Keyword}
use Rattle.sal_module.specs.declared.keyword.Keyword.TheVariants as word
use Rattle.sal_module.specs.Keywords.{keyword_of}
use Rattle.sal_module.specs.Profile.{level_faults}
use Rattle.sal_module.specs.Statements.{argument_of}
use Rattle.sal_module.specs.Modules.{stmt_at}
use Rattle.sal_module.specs.Table.{Rule, rule_of, rule_at, text_rule}
use Rattle.sal_module.specs.Table as table
use Rattle.sal_grouping.proofs.Parts.{TreeNode, TreeRow}
use Rattle.sal_grouping.specs.declared.forest.Branch.{Branch}
use Rattle.sal_grouping.specs.declared.forest.Implied.{Implied}
use Rattle.sal_grouping.specs.declared.forest.Implied.TheVariants as implied
use Rattle.sal_grouping.specs.Expand.{branch_of, source_of, place_of}
use Rattle.sal_grouping.specs.Growth.{is_node}
use Rattle.sal_grouping.specs.Rows.{rows_of}
use Rattle.sal_schema.specs.declared.table.NodeInfo.{NodeInfo}
use Rattle.sal_schema.specs.declared.table.SchemaTable.{SchemaTable}
use Rattle.sal_schema.specs.Table.{all_from}
use Rattle.sal_schema.specs.Valid.{is_identifier}
use Rattle.sal_schema.proofs.Conjuncts.{and_first, and_second}
use Rattle.sal_build.specs.Laws.{NodesAreNamed}
use Rattle.sal_module_table.specs.Nodes.{kind_among, kind_in, argument_in, name_in, name_of, has}
use Rattle.sal_module_table.specs.Table.{infos_from}
use Rattle.sal_build.proofs.Built.{IsBuiltOn, built_on, forest_by, nodes_of}
use Rattle.sal_build.proofs.Grown.{AreGrown, built-grown}
use Rattle.sal_build.proofs.NamedModules.{good-argument, identifier-given}
use Rattle.sal_build.proofs.OwnStatements.{AreOwn, own-rows}
use Rattle.sal_build.proofs.Quiet.{both}
use Rattle.sal_build.proofs.Shapes.{is_shape, is_seed}
use Rattle.sal_build.proofs.Entries.{wrong}

-- ---- arguments

abbrev pub rule_given : Option Keyword → Rule
rule_given keyword = unwrap_or (option_and_then rule_at keyword) text_rule

pub rule-by : (text : List ℕ) → rule_of text ≡ rule_given (keyword_of text)
unfolding rule_of
rule-by text = refl

node-form : (keyword : Keyword) → IsTrue (is_node (Some keyword)) → (rule_given (Some keyword)).argument ≡ Identifier
unfolding rule_at table.rows
node-form word.Container h = refl
node-form word.Leaf h = refl
node-form word.LeafList h = refl
node-form word.List h = refl
node-form word.Choice h = refl
node-form word.Case h = refl
node-form word.Rpc h = refl
node-form word.Notification h = refl
node-form keyword h = absurd (wrong h)

node-argument : (m : ℕ) (keyword : Keyword) (stmt : Stmt) → keyword_of (out-Stmt stmt).keyword ≡ Some keyword → level_faults m stmt ≡ [] → IsTrue (is_node (Some keyword)) → IsTrue (is_identifier (argument_of stmt))
node-argument m keyword stmt e level h =
    let form = ap (λ (r : Rule). r.argument) (rule-by (out-Stmt stmt).keyword ∙ ap rule_given e) ∙ node-form keyword h in
    identifier-given _ _ stmt form refl (good-argument m stmt level)

-- ---- names

name-plain : (keyword : Keyword) (presence : Bool) (name : List ℕ) → IsTrue (is_shape (Some keyword)) → (IsTrue (is_node (Some keyword)) → IsTrue (is_identifier name)) → IsTrue (is_identifier (name_in (kind_among presence (Some keyword)) name))
name-plain word.Input presence name h good = refl
name-plain word.Output presence name h good = refl
name-plain word.Container presence name h good = good refl
name-plain word.Leaf presence name h good = good refl
name-plain word.LeafList presence name h good = good refl
name-plain word.List presence name h good = good refl
name-plain word.Choice presence name h good = good refl
name-plain word.Case presence name h good = good refl
name-plain word.Rpc presence name h good = good refl
name-plain word.Notification presence name h good = good refl
name-plain keyword presence name h good = absurd (wrong h)

name-good : (keyword : Keyword) (stmt : Stmt) (side : Option Implied) → keyword_of (out-Stmt stmt).keyword ≡ Some keyword → IsTrue (is_seed side (Some keyword)) → (IsTrue (is_node (Some keyword)) → IsTrue (is_identifier (argument_of stmt)))
    → IsTrue (is_identifier (name_in (kind_in (Some stmt) side) (argument_of stmt)))
name-good keyword stmt None e h good =
    subst (λ (k : Option Keyword). IsTrue (is_identifier (name_in (kind_among (has word.Presence (Some stmt)) k) (argument_of stmt)))) (sym e) (name-plain keyword (has word.Presence (Some stmt)) (argument_of stmt) h good)
name-good keyword stmt (Some implied.Case) e h good = good h
name-good keyword stmt (Some implied.Input) e h good = refl
name-good keyword stmt (Some implied.Output) e h good = refl

pub none-fits : (side : Option Implied) → is_seed side None ≡ false
none-fits None = refl
none-fits (Some implied.Case) = refl
none-fits (Some implied.Input) = refl
none-fits (Some implied.Output) = refl

module _ (stmts : List Stmt) (owns : AreOwn stmts (rows_of stmts)) where
  abbrev is_named_node : ℕ → TreeNode → Bool
  is_named_node k node = is_identifier (name_of stmts (branch_of (rows_of stmts) node))

  abbrev named_at : Option Implied → Option TreeRow → Bool
  named_at side row = is_identifier (name_in (kind_in (stmt_at stmts (source_of row) (place_of row)) side) (argument_in (stmt_at stmts (source_of row) (place_of row))))

  row-named : (k : ℕ) (side : Option Implied) (row : Option TreeRow) → slice_get (rows_of stmts) k ≡ row → IsTrue (is_seed side (option_map (λ (row : TreeRow). row.keyword) row)) → IsTrue (named_at side row)
  row-named k side None e h = absurd (wrong (sym (none-fits side) ∙ h))
  row-named k side (Some row) e h =
      let own = owns k row e in
      subst (λ (o : Option Stmt). IsTrue (is_identifier (name_in (kind_in o side) (argument_in o)))) (sym own.found)
      (name-good row.keyword own.stmt side own.keyword h (node-argument row.module row.keyword own.stmt own.keyword own.good))

  nodes-named : (nodes : List TreeNode) → AreGrown stmts nodes → IsTrue (all_from is_named_node 0 nodes)
  nodes-named nodes grown = grown is_named_node (λ owner k parent seed h before fit. row-named seed.0 seed.1 (slice_get (rows_of stmts) seed.0) refl fit)

  infos-named : (forest : List Branch) (k : ℕ) (nodes : List TreeNode) → IsTrue (all_from is_named_node k nodes)
      → IsTrue (list_all (λ (node : NodeInfo). is_identifier node.name) (infos_from stmts forest k (map (branch_of (rows_of stmts)) nodes)))
  infos-named forest k [] h = refl
  infos-named forest k (node ∷ nodes) h =
      both (is_named_node k node) (list_all (λ (node : NodeInfo). is_identifier node.name) (infos_from stmts forest (k + 1) (map (branch_of (rows_of stmts)) nodes)))
      (and_first (is_named_node k node) (all_from is_named_node (k + 1) nodes) h) (infos-named forest (k + 1) nodes (and_second (is_named_node k node) (all_from is_named_node (k + 1) nodes) h))

pub nodes-are-named-on : (stmts : List Stmt) (nodes : List TreeNode) (table : SchemaTable) → IsTrue (list_all has_own_places stmts) → IsBuiltOn stmts nodes table → AreGrown stmts nodes
    → IsTrue (list_all (λ (node : NodeInfo). is_identifier node.name) table.nodes)
nodes-are-named-on stmts nodes table differ built grown =
    let owns = own-rows stmts differ built.checked.profile in
    subst (λ (t : SchemaTable). IsTrue (list_all (λ (node : NodeInfo). is_identifier node.name) t.nodes)) built.is (infos-named stmts owns (forest_by stmts nodes) 0 nodes (nodes-named stmts owns nodes grown))

pub nodes_are_named : NodesAreNamed
nodes_are_named stmts table differ e = nodes-are-named-on stmts (nodes_of stmts) table differ (built_on stmts table e) (built-grown stmts)
