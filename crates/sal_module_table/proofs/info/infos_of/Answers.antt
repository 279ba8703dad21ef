use Rattle.std.proofs.Common.{◌∙◌, ◌++◌, ◌∷◌, [], ◌+◌, drop, sym, ap, arith}
use Rattle.std.proofs.lemmas.List.{get_or_default}
use Rattle.sal_module_table.specs.Table.{infos_from}
use Rattle.sal_module_table.proofs.Infos.{types-few, types-more, infos-more}
use Rattle.sal_module_table.proofs.info.infos_of.Goals as goal

pub after-types-requires : goal.after-types-requires
after-types-requires c =
    let few = types-few c.args.nodes.now.modules.now c.args.nodes.now.forest.now c.loop-k.k c.loop-k-test.true in
    omega (arith, few, c.loop-k.invariant.types, c.args.nodes.now.looked_up.few)

pub loop-k-preserved : goal.loop-k-preserved
loop-k-preserved c =
    let stmts = c.args.nodes.now.modules.now in
    let forest = c.args.nodes.now.forest.now in
    let k = c.loop-k.k in
    let at = get_or_default forest k _ _ c.loop-k-test.true in
    let pushed = c.in_ok-append.ensures ∙ ap (λ i. c.loop-k.infos.items ++ i ∷ []) c.in_ok-info_of.ensures in
    record {
      infos = c.loop-k.invariant.infos ∙ infos-more stmts forest c.loop-k.infos.items k _ c.loop-k-test.true at ∙ ap (λ done. done ++ infos_from stmts forest (k + 1) (drop (k + 1) forest)) (sym pushed);
      types = rw (c.is_typed.ensures, c.loop-k.invariant.types) at c.after-types.ensures ∙ types-more stmts forest k _ c.loop-k-test.true at;
    }
