use Rattle.std.proofs.Common.{None, length, sym, arith}
use Rattle.std.proofs.lemmas.Option.{slice_get_past}
use Rattle.sal_module_table.specs.Leafrefs.{with_message}
use Rattle.sal_module_table.proofs.Above.{past}
use Rattle.sal_module_table.proofs.walk.message_at.Goals as goal

pub returns-else-k-messages : goal.returns-else-k-messages
returns-else-k-messages c =
    let forest = c.args.forest.now in
    let none = slice_get_past forest c.args.k (omega (arith, c.requires.count)) in
    sym (past (with_message c.args.modules.now) None forest (length forest) c.args.k none)
