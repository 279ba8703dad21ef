use Rattle.sal_script.proofs.Readers.{reads_err}
use Rattle.sal_script.proofs.upgrades.opened.Goals as goal

pub returns-in_err-have_openings-clause-device : goal.returns-in_err-have_openings-clause-device
returns-in_err-have_openings-clause-device c =
    let e = c.in_err-have_openings.field-0.0 in
    reads_err _ _ e _ c.from_residual.ensures.1 (c.in_err-have_openings.ensures c.args.texts.0.items)
