use Rattle.std.proofs.Common.{◌++◌, ℕ, List, ap, append_assoc, codes, sym, string_bytes, ◌∙◌}
use Rattle.std.proofs.lemmas.Result.{on_ok_weaker}
use Rattle.serde_json.specs.View.{view}
use Rattle.sal_script.specs.declared.script.ScriptStep.{ScriptStep}
use Rattle.sal_script.specs.Moves.{move_of}
use Rattle.sal_script.specs.Words.{number}
use Rattle.sal_draw_script.specs.Steps.{context_text, quoted_text, service_text, value_text}
use Rattle.sal_draw_script.proofs.steps.push_service.Goals as goal

pub returns-in_ok-push_one-in-Invoke : goal.returns-in_ok-push_one-in-Invoke
returns-in_ok-push_one-in-Invoke c =
    let old = string_bytes c.args.text.now in
    let i = c.in-Invoke in
    let rest = quoted_text i.rpc ++ (context_text i.context ++ value_text (view i.input)) in
    on_ok_weaker c.push_asked.result
    (λ e. e
    ∙ ap (λ (t : List ℕ). t ++ rest) c.in_ok-push_one-in-Invoke.ensures
    ∙ append_assoc old (codes "invoke" ++ number c.from.result) rest
    ∙ ap (λ (n : ℕ). old ++ (codes "invoke" ++ (number n ++ rest))) c.from.ensures
    ∙ ap (λ (s : ScriptStep). old ++ service_text (move_of s)) (sym i.is))
    c.push_asked.ensures
