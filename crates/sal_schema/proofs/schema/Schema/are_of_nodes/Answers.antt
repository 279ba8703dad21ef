use Rattle.std.proofs.Common.{sym}
use Rattle.sal_schema.proofs.Below.{are_of_nodes-short}
use Rattle.sal_schema.proofs.schema.Schema.are_of_nodes.Goals as goal

pub returns-then-leafs-values : goal.returns-then-leafs-values
returns-then-leafs-values c = sym (are_of_nodes-short c.args.self.now c.args.leafs.now c.args.values.now c.if-leafs-values.true)
