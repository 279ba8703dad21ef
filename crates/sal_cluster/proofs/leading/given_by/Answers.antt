-- One more is copied.
use Rattle.std.proofs.Common.{◌<◌, ◌++◌, ◌∷◌, [], Option, length, map, take, ap, sym, ◌∙◌, arith}
use Rattle.std.proofs.lemmas.List.{map_more}
use Rattle.sal_history.specs.declared.opening.Opening.{Opening}
use Rattle.sal_follow.specs.States.{Following}
use Rattle.sal_cluster.specs.StandBys.{trees_given}
use Rattle.sal_cluster.proofs.leading.given_by.Goals as goal

pub loop-follower-preserved : goal.loop-follower-preserved
loop-follower-preserved c =
    let fs = c.args.followers.now in
    let i = c.loop-follower.follower-index in
    let f = c.follower-item.result in
    let within : i < length fs = omega arith in
    c.in_ok-push.ensures.items ∙ ap (λ (o : Option Opening). c.loop-follower.given.items ++ o ∷ []) c.in_ok-one.ensures
    ∙ (λ j. c.loop-follower.invariant j ++ trees_given f ∷ [])
    ∙ sym (map_more trees_given fs i f within ∙ ap (λ (x : Following). map trees_given (take i fs) ++ trees_given x ∷ []) (sym c.follower-item.is))
