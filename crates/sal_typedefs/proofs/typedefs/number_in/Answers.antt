use Rattle.std.proofs.Common.{◌∙◌, ◌<◌, length, ap, arith}
use Rattle.sal_typedefs.specs.Blocks.{Numbers, get_by_name}
use Rattle.sal_typedefs.proofs.IdentityLists.{number-at}
use Rattle.sal_typedefs.proofs.typedefs.number_in.Goals as goal

pub returns : goal.returns
returns c stmts are =
    let name = c.args.name.now in
    let k = c.args.number in
    let lt : k < length c.args.all.now = omega arith in
    c.copied.ensures ∙ c.get.ensures.value ∙ ap (λ (m : Numbers). get_by_name m name) c.index-all-k.is ∙ number-at stmts c.args.all.now name k c.index-all-k.result are lt
