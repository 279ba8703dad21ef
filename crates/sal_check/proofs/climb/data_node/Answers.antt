use Rattle.std.proofs.Common.{◌≡◌, Bool, true, false, cond, not, Some, sym, ap, ◌∙◌}
use Rattle.sal_schema.specs.declared.kind.Kind.{Kind}
use Rattle.sal_schema.specs.Kinds.{is_choice_or_case}
use Rattle.sal_schema.specs.Table.{data_parent}
use Rattle.sal_check.proofs.Climbs.{data_node-Some, kind_says}
use Rattle.sal_check.proofs.climb.data_node.Goals as goal

abbrev stays : Kind → Bool
stays kind = not (is_choice_or_case kind)

pub returns-then-is_choice_or_case : goal.returns-then-is_choice_or_case
returns-then-is_choice_or_case c =
    let table = c.args.schema.now in
    let n = c.args.node in
    let is : is_choice_or_case c.kind.result ≡ true = sym c.is_choice_or_case.ensures ∙ c.if-is_choice_or_case.true in
    c.data_parent.ensures ∙ sym (data_node-Some table n c.len.ensures.table c.requires ∙ ap (λ b. cond b (Some n) (data_parent table n)) (kind_says stays table n c.kind.result c.kind.ensures ∙ ap not is))

pub returns-else-is_choice_or_case : goal.returns-else-is_choice_or_case
returns-else-is_choice_or_case c =
    let table = c.args.schema.now in
    let n = c.args.node in
    let is : is_choice_or_case c.kind.result ≡ false = sym c.is_choice_or_case.ensures ∙ c.if-is_choice_or_case.false in
    sym (data_node-Some table n c.len.ensures.table c.requires ∙ ap (λ b. cond b (Some n) (data_parent table n)) (kind_says stays table n c.kind.result c.kind.ensures ∙ ap not is))
