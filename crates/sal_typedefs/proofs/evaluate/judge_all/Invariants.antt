-- The last statements are judged.
use Rattle.std.proofs.Common.{◌≤◌, length, map, drop, reverse}
use Rattle.sal_typedefs.specs.Walks.{node_of}
use Rattle.sal_typedefs.specs.Judgements.{AreJudged}
use Rattle.sal_typedefs.specs.Runs.{run}
use Rattle.sal_typedefs.proofs.evaluate.judge_all.Given as goal

abbrev pub invariant-nodes : goal.invariant-nodes
invariant-nodes l = (l.n ≤ length l.nodes) × AreJudged (reverse l.done.items) (run l.typedefs (map node_of (drop l.n l.nodes)))

abbrev pub decreases-nodes : goal.decreases-nodes
decreases-nodes l = l.n
