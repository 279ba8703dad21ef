use Rattle.std.proofs.Common.{◌∙◌, map, sym, ap}
use Rattle.sal_typedefs.specs.Names.{steps_of}
use Rattle.sal_typedefs.specs.Spots.{site_in}
use Rattle.sal_typedefs.specs.Leafrefs.{leafref_seen, stmt_in}
use Rattle.sal_typedefs.proofs.WholeTypes.{no-leafrefs}
use Rattle.sal_typedefs.proofs.leafrefs.leafrefs_at.Goals as goal

pub returns-in-Some : goal.returns-in-Some
returns-in-Some c =
    let a = c.args in
    ap (map leafref_seen) c.new.ensures.items
    ∙ sym (ap (map stmt_in) (no-leafrefs a.scope.now.typedefs.now (site_in a.scope.now.number a.scope.now.around.items a.stmt.now) c.in-Some._builtin c.in-Some.ensures.names (steps_of a.scope.now.typedefs.now) c.in-Some.ensures.is))

pub returns-in-None : goal.returns-in-None
returns-in-None c = rw (c.new-spot.ensures.value, c.as_slice-around.ensures.value) at c.leafrefs_of_spot.ensures

pub leafrefs_of_spot-requires-clause-outer : goal.leafrefs_of_spot-requires-clause-outer
leafrefs_of_spot-requires-clause-outer c = c.new-spot.ensures.outer ∙ c.as_slice-around.ensures.value
