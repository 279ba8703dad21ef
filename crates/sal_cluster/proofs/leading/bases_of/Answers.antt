-- One more is set.
use Rattle.std.proofs.Common.{◌≡◌, ℕ, ◌+◌, ◌<◌, ◌≤◌, Option, length, ap, ◌∙◌, arith}
use Rattle.std.specs.Prelude.{unwrap_or}
use Rattle.sal_follow.specs.States.{Following}
use Rattle.sal_cluster.specs.StandBys.{follower_at, number_held}
use Rattle.sal_cluster.proofs.Followed.{all_set, at_index}
use Rattle.sal_cluster.proofs.Numbered.{set_next}
use Rattle.sal_cluster.proofs.leading.bases_of.Goals as goal

pub set-requires : goal.set-requires
set-requires c = omega (arith, c.loop-domain-test.true, c.requires)

pub loop-domain-preserved : goal.loop-domain-preserved
loop-domain-preserved c =
    let l = c.loop-domain in
    let fs = c.args.followers.now in
    let inside : l.domain < length fs = omega (arith, c.loop-domain-test.true) in
    let held = c.follower.ensures ∙ at_index fs l.domain c.index-followers-domain.result inside c.index-followers-domain.is in
    let is = c.unwrap_or.ensures ∙ ap (λ (v : Option ℕ). unwrap_or v 0) (c.version-number.ensures ∙ ap (λ (f : Following). f.held.version) held) in
    record {
      bound = omega (arith, inside);
      done = set_next l.bases c.set.new.self l.domain c.unwrap_or.result (λ n. number_held (follower_at fs n)) c.set.ensures.here c.set.ensures.others is l.invariant.done;
      zeros = λ n past. c.set.ensures.others n (λ e. omega (arith, e, past)) ∙ l.invariant.zeros n (omega (arith, past));
    }

pub returns : goal.returns
returns c =
    let l = c.loop-domain in
    all_set c.args.followers.now l.bases l.domain (omega (arith, c.loop-domain-test.false)) l.invariant.bound l.invariant.done l.invariant.zeros
