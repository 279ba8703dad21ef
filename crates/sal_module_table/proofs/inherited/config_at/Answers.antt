use Rattle.std.proofs.Common.{◌∙◌, true, Some, length, sym, ap, arith}
use Rattle.std.proofs.lemmas.Option.{slice_get_past}
use Rattle.sal_module_table.specs.Inherited.{config_above, with_config}
use Rattle.sal_module_table.proofs.Above.{past}
use Rattle.sal_module_table.proofs.inherited.config_at.Goals as goal

pub returns-else-p-configs : goal.returns-else-p-configs
returns-else-p-configs c =
    let forest = c.args.forest.now in
    let none = slice_get_past forest c.in-Some.p (omega (arith, c.requires.count)) in
    sym (ap (config_above c.args.modules.now forest) c.in-Some.is ∙ past (with_config c.args.modules.now) (Some true) forest (length forest) c.in-Some.p none)
