use Rattle.std.proofs.Common.{◌≡◌, ◌++◌, take}
use Rattle.std.specs.List.{flat_map}
use Rattle.sal_lint_script.specs.Linted.{texts_in}
use Rattle.sal_lint_script.proofs.texts.own_texts.Given as goal

abbrev pub invariant-loop-texts : goal.invariant-loop-texts
invariant-loop-texts l = texts_in l.list.items ≡ l.script.modules ++ flat_map (λ texts. texts) (take l.texts-index l.script.upgrades)
