-- One more piece is taken.
use Rattle.std.proofs.Common.{◌+◌, ◌-◌, ◌≤◌, ℕ, List, length, take, drop, refl, arith}
use Rattle.std.proofs.lemmas.List.{length-take, length-drop}
use Rattle.sal_follow.proofs.Exporting.{err_so}
use Rattle.sal_follow_script.specs.Taken.{IsTaken}
use Rattle.sal_follow_script.proofs.Fed.{all_fed, ends_at, has_room, more_fed, none_fed}
use Rattle.sal_follow_script.proofs.follow.feed_all.Goals as goal

pub loop-fed-init : goal.loop-fed-init
loop-fed-init c = none_fed c.args.stream.now c.args.follower.now c.requires

pub feed-requires : goal.feed-requires
feed-requires c =
    let l = c.loop-fed in
    let stream = c.args.stream.now in
    let end : ℕ = c.piece_end-end.result in
    let piece : List ℕ = take (end - l.fed) (drop l.fed stream) in
    let inside : l.fed + length piece ≤ length stream = omega (arith, length-take (end - l.fed) (drop l.fed stream), length-drop l.fed stream, l.invariant.within) in
    has_room c.places_count_bytes.ensures stream c.args.follower.now l.follower l.fed (length piece) l.invariant inside (omega arith)

pub loop-fed-preserved : goal.loop-fed-preserved
loop-fed-preserved c =
    let l = c.loop-fed in
    more_fed c.args.stream.now c.args.follower.now l.follower c.feed.new.self l.fed c.piece_end-end.result _ _ l.invariant (omega arith) (omega arith) refl c.in_ok-feed.ensures.taken _ refl

pub returns-in_err-feed : goal.returns-in_err-feed
returns-in_err-feed c =
    let l = c.loop-fed in
    let e = c.in_err-feed.field-0.0 in
    let next = c.feed.new.self in
    err_so (IsTaken c.args.stream.now c.args.follower.now next) _ e c.from_residual.ensures.1
    (ends_at c.args.stream.now c.args.follower.now l.follower next l.fed c.piece_end-end.result _ _ l.invariant (omega arith) (omega arith) refl c.in_err-feed.ensures.taken e refl)

pub returns : goal.returns
returns c = all_fed c.args.stream.now c.args.follower.now c.loop-fed.follower c.loop-fed.fed c.loop-fed.invariant (omega arith)
