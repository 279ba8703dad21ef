use Rattle.std.proofs.Common.{◌≡◌, true, false, List, [], IfOk, ap, sym, subst, ◌∙◌, map, arith, rules}
use Rattle.std.proofs.lemmas.Grind.{common_steps}
use Rattle.serde_json.specs.Data.{Data, Members, null, array, object}
use Rattle.serde_json.specs.declared.value.Value.{Null, the_lemmas}
use Rattle.serde_json.specs.View.{view, items_of, members_view}
use Rattle.serde_json.proofs.Views.{view-Array, view-Object}
use Rattle.sal_schema.specs.Kinds.{is_leaf, is_leaf_list, is_list}
use Rattle.sal_schema.specs.Table.{is_kind}
use Rattle.sal_data.specs.Written.{node_json, with_run}
use Rattle.sal_data.proofs.Levels.{node_json_zero, node_json_leaf, node_json_leafs, node_json_list, node_json_other, entries_end, members_end}
use Rattle.sal_data.proofs.write.Writer.+tree.Goals as goal

pub entries_json-returns : goal.entries_json-returns
entries_json-returns t c =
    let rest = c.runs.rest.now in
    let none : rest ≡ [] = grind (arith, common_steps) in
    let f = node_json c.args.levels c.args.self.now.schema.now in
    let all = sym (entries_end c.args.self.now.schema.now c.args.node f c.args.k rest (map view c.runs.entries.items) none) ∙ c.runs.invariant in
    view-Array c.runs.entries ∙ ap (λ (ds : List Data). array (items_of ds)) all

pub members_json-returns : goal.members_json-returns
members_json-returns t c =
    let rest = c.runs.rest.now in
    let none : rest ≡ [] = grind (arith, common_steps) in
    let f = node_json c.args.levels c.args.self.now.schema.now in
    let with = with_run c.args.self.now.schema.now c.args.parent f c.args.k in
    let all = sym (members_end with c.args.k rest (members_view c.runs.members.entries) none) ∙ c.runs.invariant in
    view-Object c.runs.members ∙ ap (λ (ms : Members). object ms) all

pub node_json-returns-then-levels-eq0 : goal.node_json-returns-then-levels-eq0
node_json-returns-then-levels-eq0 t c =
    let none : c.args.levels ≡ 0 = omega arith in
    let table = c.args.self.now.schema.now in
    let here = ap (λ levels. node_json levels table c.args.node c.args.k c.args.rows.now) none in
    let nothing : view Null ≡ null = search (rules, the_lemmas) in
    nothing ∙ sym (here ∙ node_json_zero table c.args.node c.args.k c.args.rows.now)

pub node_json-returns-then-is_leaf : goal.node_json-returns-then-is_leaf
node_json-returns-then-is_leaf t c =
    let table = c.args.self.now.schema.now in
    let n = c.args.node in
    let leaf : is_kind is_leaf table n ≡ true = cc in
    let P : Data → Type 0 = λ d. IfOk c.leaf_json.result (λ json. view json ≡ d) in
    subst P (sym (node_json_leaf c.args.levels table n c.args.k c.args.rows.now (omega arith) leaf)) c.leaf_json.ensures

pub node_json-returns-then-is_leaf_list : goal.node_json-returns-then-is_leaf_list
node_json-returns-then-is_leaf_list t c =
    let table = c.args.self.now.schema.now in
    let n = c.args.node in
    let leaf : is_kind is_leaf table n ≡ false = cc in
    let leafs : is_kind is_leaf_list table n ≡ true = cc in
    let P : Data → Type 0 = λ d. IfOk c.items_json.result (λ json. view json ≡ d) in
    subst P (sym (node_json_leafs c.args.levels table n c.args.k c.args.rows.now (omega arith) leaf leafs)) c.items_json.ensures

pub node_json-returns-then-is_list : goal.node_json-returns-then-is_list
node_json-returns-then-is_list t c =
    let table = c.args.self.now.schema.now in
    let n = c.args.node in
    let leaf : is_kind is_leaf table n ≡ false = cc in
    let leafs : is_kind is_leaf_list table n ≡ false = cc in
    let list : is_kind is_list table n ≡ true = cc in
    let P : Data → Type 0 = λ d. IfOk c.entries_json.result (λ json. view json ≡ d) in
    subst P (sym (node_json_list c.args.levels table n c.args.k c.args.rows.now (omega arith) leaf leafs list)) c.entries_json.ensures

pub node_json-returns-else-is_list : goal.node_json-returns-else-is_list
node_json-returns-else-is_list t c =
    let table = c.args.self.now.schema.now in
    let n = c.args.node in
    let leaf : is_kind is_leaf table n ≡ false = cc in
    let leafs : is_kind is_leaf_list table n ≡ false = cc in
    let list : is_kind is_list table n ≡ false = cc in
    let P : Data → Type 0 = λ d. IfOk c.members_json.result (λ json. view json ≡ d) in
    subst P (sym (node_json_other c.args.levels table n c.args.k c.args.rows.now (omega arith) leaf leafs list)) c.members_json.ensures
