use Rattle.std.proofs.Common.{◌≡◌, ◌++◌, take}
use Rattle.sal_module.proofs.Numbered.{numbered}
use Rattle.sal_lint.proofs.Modules.{lines_by}
use Rattle.sal_lint.proofs.lines.push_modules.Given as goal

abbrev pub invariant-loop-number : goal.invariant-loop-number
invariant-loop-number l = l.out.items ≡ l.initial.out.items ++ numbered (lines_by l.device) 0 (take l.number l.texts)
