-- The report of the follower is the report of the stream.
use Rattle.std.proofs.Common.{ap, ◌∙◌}
use Rattle.sal_follow.specs.States.{Following}
use Rattle.sal_follow_script.proofs.Ends.{told_fault_by, told_taken}
use Rattle.sal_follow_script.proofs.Fed.{counted}
use Rattle.sal_follow_script.proofs.follow.follow_stream.Goals as goal

pub told-requires-clause-size : goal.told-requires-clause-size
told-requires-clause-size c = counted c.places_count_bytes.ensures c.args.stream.now c.in_ok-follower.follower c.feed_all.new.follower c.in-Ok.ensures

pub returns-in-Ok : goal.returns-in-Ok
returns-in-Ok c =
    told_taken c.args.own.schema.value c.args.stream.now c.in_ok-follower.follower c.feed_all.new.follower c.told.result (ap (λ (f : Following). f.schema) c.in_ok-follower.ensures ∙ c.in_ok-shared.ensures) c.in-Ok.ensures c.told.ensures

pub returns : goal.returns
returns c =
    told_fault_by c.args.own.schema.value c.args.stream.now c.in_ok-follower.follower c.feed_all.new.follower c.in-Err.fault c.fault_status.result (ap (λ (f : Following). f.schema) c.in_ok-follower.ensures ∙ c.in_ok-shared.ensures) c.in-Err.ensures c.fault_status.ensures
