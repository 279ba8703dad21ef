use Rattle.std.proofs.Common.{◌≡◌, ◌++◌, take}
use Rattle.sal_lint_script.specs.Linted.{texts_in}
use Rattle.sal_lint_script.proofs.texts.push_texts.Given as goal

abbrev pub invariant-loop-text : goal.invariant-loop-text
invariant-loop-text l = texts_in l.list.items ≡ texts_in l.initial.list.items ++ take l.text-index l.texts
