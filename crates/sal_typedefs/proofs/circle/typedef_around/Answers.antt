use Rattle.std.proofs.Common.{◌∙◌}
use Rattle.sal_module.specs.declared.keyword.Keyword.TheVariants as word
use Rattle.sal_module.specs.Statements.{is_named}
use Rattle.sal_typedefs.proofs.SpotLists.{inner-passes, inner-fails}
use Rattle.sal_typedefs.proofs.circle.typedef_around.Goals as goal

pub returns-in-Some : goal.returns-in-Some
returns-in-Some c =
    let spot = c.args.spot.now in
    inner-passes (is_named word.Typedef) spot.outer.now spot.inner.items c.in-Some.stmt.now (rw c.as_slice.ensures.value at c.in-Some.ensures)

pub returns-in-None : goal.returns-in-None
returns-in-None c =
    let spot = c.args.spot.now in
    c.closest_outer.ensures ∙ inner-fails (is_named word.Typedef) spot.outer.now spot.inner.items (rw c.as_slice.ensures.value at c.in-None.ensures)
