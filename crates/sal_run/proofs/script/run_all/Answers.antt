-- The clients at their new seats, when they have worked, and when they are taken in.
use Rattle.std.proofs.Common.{◌<◌, length, arith, subst, ◌∙◌}
use Rattle.sal_broker.specs.Seats.{SeatView}
use Rattle.sal_run.specs.Joined.{Joins}
use Rattle.sal_run.proofs.Everyone.{at_index, seated_new, worked_at}
use Rattle.sal_run.proofs.script.run_all.Goals as goal

pub all_run-finished-requires-clause-new : goal.all_run-finished-requires-clause-new
all_run-finished-requires-clause-new g c κs _ i r within at =
    let programs = c.args.programs.now in
    let are = c.in_ok-runs.ensures.seated in
    let long = are.long in
    let small : i < length programs = omega (arith, long, within) in
    seated_new c.args.hall.now.readers.now c.args.hall.now.sal.now programs c.args.opening.view i r c.requires.reads c.requires.opening.seen small (are.each i r (at_index c.in_ok-runs.runs.items i r within at))

pub join_all-requires-clause-others : goal.join_all-requires-clause-others
join_all-requires-clause-others g c i f at =
    let worked = worked_at c.args.hall.now.readers.now c.args.hall.now.sal.now c.args.programs.now c.args.opening.view (length c.args.programs.now) c.in_ok-runs.runs.items c.all_run-finished.result.items c.in_ok-runs.ensures.seated c.all_run-finished.ensures.long c.all_run-finished.ensures.each i f at in
    (worked.there, worked.keeps.0, worked.keeps.1.4)

pub returns : goal.returns
returns g c =
    let lock = c.args.hall.now.sal.now in
    record {
      clients = c.all_run-finished.result.items;
      long = c.all_run-finished.ensures.long ∙ c.in_ok-runs.ensures.seated.long;
      each = worked_at c.args.hall.now.readers.now lock c.args.programs.now c.args.opening.view (length c.args.programs.now) c.in_ok-runs.runs.items c.all_run-finished.result.items c.in_ok-runs.ensures.seated c.all_run-finished.ensures.long c.all_run-finished.ensures.each;
      joins = subst (λ (v : SeatView). Joins lock v c.all_run-finished.result.items c.join_all.result.0) c.in_ok-runs.ensures.giver.1 c.join_all.ensures.joins;
      collects = c.join_all.ensures.collects;
    }
