use Rattle.std.proofs.Common.{◌≡◌, sym, arith}
use Rattle.std.proofs.lemmas.List.{take_all}
use Rattle.sal_lint.proofs.lines.front_of.Goals as goal

pub returns-then-text-lt60 : goal.returns-then-text-lt60
returns-then-text-lt60 c = sym (take_all 60 c.args.text.now (omega (arith, c.if-text-lt60.true)))
