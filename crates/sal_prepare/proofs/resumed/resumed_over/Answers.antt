-- The last versions of the readers' schemas are those of the world.
use Rattle.std.proofs.Common.{map, ap, sym, ◌∙◌}
use Rattle.sal_script.specs.Tables.{last_among}
use Rattle.sal_script.specs.Reading.{parts}
use Rattle.sal_prepare.specs.Resumed.{resumed_with}
use Rattle.sal_prepare.specs.Scripted.{versions_shared}
use Rattle.sal_prepare.specs.declared.status.Status.TheVariants.{NoMemory}
use Rattle.sal_prepare.proofs.Each.{comes_err}
use Rattle.sal_prepare.proofs.Worlds.{last_tables}
use Rattle.sal_prepare.proofs.resumed.resumed_over.Goals as goal

pub returns-clause-schemas : goal.returns-clause-schemas
returns-clause-schemas c =
    c.in_ok-schemas.ensures.tables ∙ ap (map last_among) (sym c.in_ok-readers.ensures.same ∙ c.in_ok-hub.ensures.tables) ∙ last_tables c.in_ok-hub.hub.world

-- the clause makes no statement about missing memory
pub returns-in_err-schemas-clause-world : goal.returns-in_err-schemas-clause-world
returns-in_err-schemas-clause-world c =
    comes_err _ (resumed_with c.args.script.now.rules (parts c.args.script.now).devices (versions_shared c.args.all.now) c.args.openings.own c.args.openings.devices.items) _ NoMemory c.from_residual-in_err-schemas.ensures.1 tt
