use Rattle.sal_isolation_laws.proofs.Committers.{first_committer_wins, paths_are_as_seen}
use Rattle.sal_isolation_laws.proofs.laws.the_first_committer_wins.Goals as goal

pub returns : goal.returns
returns c = record { pairs = first_committer_wins; seen = paths_are_as_seen }
