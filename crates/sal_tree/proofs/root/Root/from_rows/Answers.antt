use Rattle.std.proofs.Common.{ap, sym, ◌∙◌, subst}
use Rattle.sal_types.specs.Tree.{IsAscending}
use Rattle.sal_tree.specs.Rows.{rows_of}
use Rattle.sal_tree.specs.Follows.{IsStamped}
use Rattle.sal_tree.proofs.Heights.{whole-as}
use Rattle.sal_tree.proofs.Runs.{from_depth-zero}
use Rattle.sal_tree.proofs.Builds.{built-whole}
use Rattle.sal_tree.proofs.root.Root.from_rows.Goals as goal

pub build-requires-clause-ascending : goal.build-requires-clause-ascending
build-requires-clause-ascending c = subst IsAscending (sym (from_depth-zero c.items.result.now ∙ c.items.ensures.all)) c.items.ensures.ascending

pub from_node-requires : goal.from_node-requires
from_node-requires c = whole-as _ _ c.in_ok-node-2.ensures.ok (built-whole c.args.stamp _ c.in_ok-node.node c.in_ok-node.ensures)

pub returns-clause-rows : goal.returns-clause-rows
returns-clause-rows c = ap rows_of (c.from_node.ensures ∙ c.in_ok-node-2.ensures.ok) ∙ c.in_ok-node.ensures.listed ∙ from_depth-zero c.items.result.now ∙ c.items.ensures.all

pub returns-clause-stamps : goal.returns-clause-stamps
returns-clause-stamps c = subst (IsStamped c.args.stamp) (sym (c.from_node.ensures ∙ c.in_ok-node-2.ensures.ok)) c.in_ok-node.ensures.stamped
