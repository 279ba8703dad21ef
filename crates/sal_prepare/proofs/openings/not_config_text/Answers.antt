-- The text of the path is after that of the fault.
use Rattle.std.proofs.Common.{ℕ, List, ◌++◌, codes, decimal, ap, ◌∙◌}
use Rattle.sal_prepare.proofs.openings.not_config_text.Goals as goal

pub returns : goal.returns
returns c = c.in_ok-text.ensures ∙ ap (λ (more : List ℕ). decimal c.args.device ++ (codes " config not-config" ++ more)) c.in_ok-words.ensures
