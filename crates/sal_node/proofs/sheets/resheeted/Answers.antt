use Rattle.std.proofs.Common.{◌+◌}
use Rattle.std.proofs.lemmas.List.{take_rest}
use Rattle.sal_node.proofs.SheetRows.{AreSheets-take, AreSheets-drop}
use Rattle.sal_node.proofs.sheets.resheeted.Goals as goal

pub share_sheets-requires-clause-given : goal.share_sheets-requires-clause-given
share_sheets-requires-clause-given c = AreSheets-take c.args.sheets.now c.args.at c.requires.old

pub share_sheets-requires-2-clause-given : goal.share_sheets-requires-2-clause-given
share_sheets-requires-2-clause-given c = rw (take_rest c.args.sheets.now (c.args.at + 1)) (AreSheets-drop c.args.sheets.now (c.args.at + 1) c.requires.old)
