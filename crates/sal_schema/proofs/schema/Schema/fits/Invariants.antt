-- The path fits where what is left of it fits from here.
use Rattle.std.proofs.Common.{◌≡◌, drop}
use Rattle.sal_schema.specs.Paths.{fits_from, top}
use Rattle.sal_schema.proofs.schema.Schema.fits.Given as goal

abbrev pub invariant-loop-step : goal.invariant-loop-step
invariant-loop-step l = fits_from l.self top l.step-items ≡ fits_from l.self l.place (drop l.step-index l.step-items)
