use Rattle.std.proofs.Common.{◌++◌, ℕ, ap, codes, sym, string_bytes, ◌∙◌}
use Rattle.std.proofs.lemmas.Result.{on_ok_weaker}
use Rattle.sal_script.specs.declared.script.ScriptStep.{ScriptStep}
use Rattle.sal_script.specs.Moves.{move_of}
use Rattle.sal_script.specs.Words.{number}
use Rattle.sal_draw_script.specs.Steps.{numbers_text}
use Rattle.sal_draw_script.proofs.steps.push_numbers.Goals as goal

pub returns-in-CloseChain : goal.returns-in-CloseChain
returns-in-CloseChain c =
    let old = string_bytes c.args.text.now in
    on_ok_weaker c.push_one-in-CloseChain.result
    (λ e. e
    ∙ ap (λ (n : ℕ). old ++ (codes "close-chain" ++ number n)) c.from-in-CloseChain.ensures
    ∙ ap (λ (s : ScriptStep). old ++ numbers_text (move_of s)) (sym c.in-CloseChain.is))
    c.push_one-in-CloseChain.ensures
