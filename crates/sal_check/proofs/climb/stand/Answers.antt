use Rattle.std.proofs.Common.{◌∙◌, Bool, not, length, sym, ap}
use Rattle.sal_schema.specs.declared.kind.Kind.{Kind}
use Rattle.sal_schema.specs.Kinds.{is_choice_or_case}
use Rattle.sal_schema.specs.Table.{data_node}
use Rattle.sal_schema.proofs.Facts.{closest-None}
use Rattle.sal_check.proofs.climb.stand.Goals as goal

pub returns-in-None : goal.returns-in-None
returns-in-None c =
    let table = c.args.schema.now in
    let stays : Kind → Bool = λ kind. not (is_choice_or_case kind) in
    sym (closest-None stays table (length table.nodes)) ∙ ap (data_node table) (sym c.in-None.is ∙ c.context.ensures.value)
