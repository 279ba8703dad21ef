use Rattle.std.proofs.Common.{◌≡◌, ◌++◌, take}
use Rattle.sal_module.proofs.Numbered.{numbered}
use Rattle.sal_script.specs.Reading.{parts}
use Rattle.sal_lint.specs.Lines.{lines_of}
use Rattle.sal_lint_script.specs.Linted.{texts_by}
use Rattle.sal_lint_script.proofs.said.push_all.Given as goal

abbrev pub invariant-loop-number : goal.invariant-loop-number
invariant-loop-number l = l.out.items ≡ l.initial.out.items ++ numbered lines_of 0 (take l.number (texts_by (parts l.script)))
