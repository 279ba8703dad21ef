use Rattle.std.proofs.Common.{◌≡◌, ◌∙◌, sym}
use Rattle.sal_module.specs.Statements.{subs_of}
use Rattle.sal_typedefs.proofs.SpotLists.{no-typedef, not-so}
use Rattle.sal_typedefs.proofs.spot.Inner.new.Goals as goal

pub invariant_of-result : goal.invariant_of-result
invariant_of-result c bare name =
    no-typedef name (subs_of c.args.stmt.now) (sym (rw c.items.ensures at c.has_named.ensures) ∙ not-so c.has_named.result bare)
