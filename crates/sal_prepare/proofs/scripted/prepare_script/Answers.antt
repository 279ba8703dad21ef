-- The last versions of the readers' schemas are those of the world.
use Rattle.std.proofs.Common.{map, ap, sym, ◌∙◌}
use Rattle.sal_script.specs.Tables.{last_among}
use Rattle.sal_script.specs.Reading.{parts}
use Rattle.sal_prepare.specs.Scripted.{prepared_of}
use Rattle.sal_prepare.specs.declared.status.Status.TheVariants.{NoMemory}
use Rattle.sal_prepare.proofs.Each.{comes_err}
use Rattle.sal_prepare.proofs.Worlds.{last_tables}
use Rattle.sal_prepare.proofs.scripted.prepare_script.Goals as goal

pub returns-clause-schemas : goal.returns-clause-schemas
returns-clause-schemas c =
    c.in_ok-schemas.ensures.tables ∙ ap (map last_among) (sym c.in_ok-readers.ensures.same ∙ c.in_ok-hub.ensures.tables) ∙ last_tables c.in_ok-hub.hub.world

-- the clause makes no statement about missing memory
pub returns-in_err-schemas-clause-prepared : goal.returns-in_err-schemas-clause-prepared
returns-in_err-schemas-clause-prepared c = comes_err _ (prepared_of (parts c.args.script)) _ NoMemory c.from_residual-in_err-schemas.ensures.1 tt
