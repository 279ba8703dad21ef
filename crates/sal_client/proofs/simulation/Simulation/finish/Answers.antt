-- One client reaches its end.
use Rattle.std.proofs.Common.{◌≡◌, ◌<◌, List, get_or, length, sym, ap, ◌∙◌, subst, arith}
use Rattle.sal_hub.specs.Answers.{limit}
use Rattle.sal_hub.specs.HubHistory.{HubHistory}
use Rattle.sal_script.specs.declared.script.ScriptStep.{ScriptStep}
use Rattle.sal_client.specs.Runs.{IsRun}
use Rattle.sal_client.proofs.Standing.{has_room, same_at}
use Rattle.sal_client.proofs.simulation.Simulation.finish.Goals as goal

pub go-requires-clause-run : goal.go-requires-clause-run
go-requires-clause-run g c κs _ =
    let ps = c.args.programs.now in
    let i = c.loop-i.i in
    let p = c.items.result.now in
    let r = c.index_mut-run.result.now in
    let at_p : p ≡ get_or ps i p = c.items.ensures ∙ c.index-programs-i.is ∙ ap (λ (d : List ScriptStep). get_or ps i d) (sym c.items.ensures) in
    let at_r : r ≡ get_or c.args.self.now.runs.items i r = c.index_mut-run.ensures.value ∙ same_at c.loop-i.self.runs.items c.args.self.now.runs.items i r c.loop-i.invariant.rest in
    subst (λ (k : HubHistory). IsRun k p r) (sym c.loop-i.invariant.log) (c.requires.runs.each i p r (omega (arith, c.len-i-end.ensures)) at_p at_r).0

pub go-requires-clause-room : goal.go-requires-clause-room
go-requires-clause-room g c κs _ =
    subst (λ (k : HubHistory). length k.log < limit) (sym c.loop-i.invariant.log) (has_room c.args.self.now.hub c.args.programs.now c.args.self.now.runs.items c.requires.runs)
