-- One client continues.
use Rattle.std.proofs.Common.{◌≡◌, List, get_or, sym, ap, ◌∙◌, arith}
use Rattle.sal_script.specs.declared.script.ScriptStep.{ScriptStep}
use Rattle.sal_client.proofs.Standing.{has_room, advance-none, turned}
use Rattle.sal_client.proofs.simulation.Simulation.advance.Goals as goal

pub returns-then-index-len : goal.returns-then-index-len
returns-then-index-len g c = advance-none c.args.readers.now c.args.self.now.hub c.args.programs.now c.args.self.now.runs.items c.args.client c.requires.runs (omega (arith, c.len.ensures))

pub go-requires-clause-run : goal.go-requires-clause-run
go-requires-clause-run g c κs _ =
    let p = c.items.result.now in
    let at_p : p ≡ get_or c.args.programs.now c.args.client p = c.items.ensures ∙ c.index-programs-index.is ∙ ap (λ (d : List ScriptStep). get_or c.args.programs.now c.args.client d) (sym c.items.ensures) in
    (c.requires.runs.each c.args.client p c.index_mut-run.result.now (omega (arith, c.len.ensures)) at_p c.index_mut-run.ensures.value).0

pub go-requires-clause-room : goal.go-requires-clause-room
go-requires-clause-room g c κs _ = has_room c.args.self.now.hub c.args.programs.now c.args.self.now.runs.items c.requires.runs

pub returns : goal.returns
returns g c =
    let p = c.items.result.now in
    let at_p : p ≡ get_or c.args.programs.now c.args.client p = c.items.ensures ∙ c.index-programs-index.is ∙ ap (λ (d : List ScriptStep). get_or c.args.programs.now c.args.client d) (sym c.items.ensures) in
    turned (c.tokens_last.ensures.begun, c.tokens_last.ensures.given, c.tokens_last.ensures.opened, c.tokens_last.ensures.called) c.args.readers.now c.in_ok-made.made c.args.self.now.hub c.go.new.hub c.args.programs.now c.args.self.now.runs.items c.args.client p c.index_mut-run.result.now c.go.new.self c.requires.runs (omega (arith, c.len.ensures)) at_p c.index_mut-run.ensures.value
    c.in_ok-made.ensures.goes c.in_ok-made.ensures.run c.in_ok-made.ensures.number
