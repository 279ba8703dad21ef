-- As many notes were taken as there are, so these are all that were offered.
use Rattle.std.proofs.Common.{sym, ◌∙◌}
use Rattle.sal_feed_script.proofs.Notes.{all_taken}
use Rattle.sal_feed_script.proofs.rounds.sum_taken.Goals as goal

pub returns : goal.returns
returns g c =
    let halves = c.all_rounds-offered in
    let offered = halves.ensures.halves.0 in
    let taken = halves.ensures.halves.1 in
    sym taken.sum
    ∙ all_taken c.args.notes halves.result.0.next halves.result.1.seat.taken c.in_ok-rest.field-0 (sym offered.offered ∙ c.in_ok-rest.ensures) offered.within (taken.count ∙ halves.ensures.all)
