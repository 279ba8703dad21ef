-- It was fed nothing.
use Rattle.std.proofs.Common.{ap, ◌∙◌}
use Rattle.sal_json.specs.Patterns.{patterns_of}
use Rattle.sal_follow.specs.States.{Following}
use Rattle.sal_follow.proofs.Counted.{begun_fed}
use Rattle.sal_cluster.proofs.beside.Beside.before.Goals as goal

pub before-requires : goal.before-requires
before-requires c = c.in_ok-patterns.ensures ∙ ap patterns_of c.deref.ensures

pub invariant_of-result : goal.invariant_of-result
invariant_of-result c = begun_fed c.args.first c.in_ok-follower.follower (ap (λ (f : Following). f.held) c.in_ok-follower.ensures)
