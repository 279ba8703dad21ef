use Rattle.std.proofs.Common.{◌+◌}
use Rattle.std.proofs.lemmas.List.{take_rest}
use Rattle.sal_node.proofs.Rows.{ArePages-take, ArePages-drop}
use Rattle.sal_node.proofs.pages.repaged.Goals as goal

pub share_pages-requires-clause-given : goal.share_pages-requires-clause-given
share_pages-requires-clause-given c = ArePages-take c.args.pages.now c.args.at c.requires.old

pub share_pages-requires-2-clause-given : goal.share_pages-requires-2-clause-given
share_pages-requires-2-clause-given c = rw (take_rest c.args.pages.now (c.args.at + 1)) (ArePages-drop c.args.pages.now (c.args.at + 1) c.requires.old)
