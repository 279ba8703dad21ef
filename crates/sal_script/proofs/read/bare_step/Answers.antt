-- The values of the step are JSON, as the text is.
use Rattle.std.proofs.Common.{rules, ◌≡◌, true, option_map, sym, ap, ◌∙◌}
use Rattle.serde_json.specs.View.{view}
use Rattle.sal_script.specs.Moves.{move_of}
use Rattle.sal_script.specs.JsonMoves.{is_json_move}
use Rattle.sal_script.proofs.JsonRead.{step_read}
use Rattle.sal_script.proofs.read.bare_step.Goals as goal

pub returns-in-Some-clause-json : goal.returns-in-Some-clause-json
returns-in-Some-clause-json c =
    let is : is_json_move (move_of c.in-Some.step) ≡ true =
    step_read c.args.bytes.now (view c.in_ok-value.value) (move_of c.in-Some.step) c.in_ok-value.ensures (sym c.in_ok-step.ensures ∙ ap (option_map move_of) c.in-Some.is) in
    search (is, rules)
