use Rattle.std.proofs.Common.{sym}
use Rattle.sal_schema.specs.Same.{same_node}
use Rattle.sal_schema.proofs.Sameness.{begins-short}
use Rattle.sal_schema.proofs.versions.nodes_begin.Goals as goal

pub returns-then-newer-older : goal.returns-then-newer-older
returns-then-newer-older c = sym (begins-short same_node c.args.older.now c.args.newer.now c.if-newer-older.true)
