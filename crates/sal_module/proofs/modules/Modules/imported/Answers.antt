use Rattle.std.proofs.Common.{◌∙◌, None, unwrap_or, ap, arith}
use Rattle.std.specs.BTreeMap.{get_by_text}
use Rattle.std.proofs.lemmas.Grind.{common_steps}
use Rattle.sal_module.specs.Modules.{Prefixes}
use Rattle.sal_module.proofs.Named.{imported-at}
use Rattle.sal_module.proofs.modules.Modules.imported.Goals as goal

pub returns : goal.returns
returns c =
    let a = c.self.inside in
    let q = c.args.prefix.now in
    rw (← c.self.view_is) (
    c.place_in.ensures
    ∙ ap (λ (x : Prefixes). unwrap_or (get_by_text x q) None) c.index.ensures
    ∙ imported-at a.list.items a.prefixes.items c.args.module c.index.result.now q c.self.invariant.names c.self.invariant.count (grind (arith, common_steps))
    )
