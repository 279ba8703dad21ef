-- Those so far, and then zeros.
use Rattle.std.proofs.Common.{◌≡◌, ℕ, ◌<◌, ◌≤◌, length}
use Rattle.sal_cluster.specs.Leaders.{base_of}
use Rattle.sal_cluster.specs.StandBys.{follower_at, number_held}
use Rattle.sal_cluster.proofs.leading.bases_of.Given as goal

abbrev pub invariant-loop-domain : goal.invariant-loop-domain
invariant-loop-domain l = record {
  bound : l.domain ≤ length l.followers;
  done : (n : ℕ) → n < l.domain → base_of l.bases n ≡ number_held (follower_at l.followers n);
  zeros : (n : ℕ) → l.domain ≤ n → base_of l.bases n ≡ 0;
}
