use Rattle.std.proofs.Common.{◌≡◌, ◌∙◌, ◌++◌, List, ℕ, ap}
use Rattle.sal_lint_script.specs.Linted.{texts_in}
use Rattle.sal_lint_script.proofs.Borrowed.{each_short}
use Rattle.sal_lint_script.proofs.texts.device_texts.Goals as goal

pub returns-clause-short : goal.returns-clause-short
returns-clause-short c =
    let modules = c.items.result.now in
    let is : texts_in c.push_texts.new.list.items ≡ c.args.device.now.modules =
    c.in_ok-push_texts.ensures ∙ ap (λ (front : List (List ℕ)). front ++ modules) (ap texts_in c.new-list.ensures.items) ∙ c.items.ensures in
    each_short c.push_texts.new.list.items c.args.device.now.modules is c.args.device.now.short
