use Rattle.std.proofs.Common.{◌≡◌, take, arith}
use Rattle.std.proofs.lemmas.Grind.{common_steps}
use Rattle.sal_script.specs.Limits.{all_texts}
use Rattle.sal_lint_script.specs.Linted.{texts_in}
use Rattle.sal_lint_script.proofs.Borrowed.{each_short}
use Rattle.sal_lint_script.proofs.texts.own_texts.Goals as goal

pub returns-clause-short : goal.returns-clause-short
returns-clause-short c =
    let script = c.args.script.now in
    let whole : take c.loop-texts.texts-index script.upgrades ≡ script.upgrades = grind (arith, common_steps) in
    let is : texts_in c.loop-texts.list.items ≡ all_texts script.modules script.upgrades = rw whole at c.loop-texts.invariant in
    each_short c.loop-texts.list.items (all_texts script.modules script.upgrades) is script.short
