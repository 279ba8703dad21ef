use Rattle.std.proofs.Common.{◌∙◌, None, length, sym, ap, arith}
use Rattle.std.proofs.lemmas.Option.{slice_get_past}
use Rattle.sal_module_table.specs.Inherited.{data_parent, with_data_node}
use Rattle.sal_module_table.proofs.Above.{past}
use Rattle.sal_module_table.proofs.inherited.data_parent.Goals as goal

pub returns-else-p-nodes : goal.returns-else-p-nodes
returns-else-p-nodes c =
    let forest = c.args.forest.now in
    let none = slice_get_past forest c.in-Some.p (omega (arith, c.requires.count)) in
    sym (ap (data_parent c.args.modules.now forest) c.in-Some.is ∙ past (with_data_node c.args.modules.now) None forest (length forest) c.in-Some.p none)
