use Rattle.std.proofs.Common.{◌∙◌, ◌++◌, ap, append-nil}
use Rattle.sal_typedefs.specs.Spots.{site_in}
use Rattle.sal_typedefs.proofs.spot.Spot.new.Goals as goal

pub returns-clause-value : goal.returns-clause-value
returns-clause-value c =
    let around = c.args.around.now in
    ap (λ blocks. site_in c.args.number blocks c.args.stmt.now) (ap (λ inner. around ++ inner) c.new.ensures.items ∙ append-nil around)
