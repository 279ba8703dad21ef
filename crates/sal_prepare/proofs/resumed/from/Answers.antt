-- A slice to the end.
use Rattle.std.proofs.Common.{◌-◌, drop, length, ap, ◌∙◌, arith, length-drop}
use Rattle.std.proofs.lemmas.List.{take_all}
use Rattle.sal_prepare.specs.Scripted.{tables_in}
use Rattle.sal_prepare.proofs.Resuming.{tables-dropped}
use Rattle.sal_prepare.proofs.resumed.from.Goals as goal

pub returns : goal.returns
returns c =
    let xs = c.args.versions.now in
    let rest = drop c.args.version xs in
    ap tables_in (take_all (length xs - c.args.version) rest (omega (arith, length-drop c.args.version xs))) ∙ tables-dropped c.args.version xs
