use Rattle.std.proofs.Common.{rules, ◌∙◌, ◌<◌, ◌++◌, ◌∷◌, [], ◌+◌, length, drop, get_or, sym, ap, arith}
use Rattle.sal_grouping.specs.Indexes.{lists}
use Rattle.sal_module_table.specs.Orders.{rows}
use Rattle.sal_module_table.specs.Identities.{seen, infos_from}
use Rattle.sal_module_table.proofs.Seen.{infos-more}
use Rattle.sal_module_table.proofs.identities.infos_of.Goals as goal

pub loop-i-preserved : goal.loop-i-preserved
loop-i-preserved c =
    let all = c.args.all.now in
    let edges = lists c.args.edges.now in
    let i = c.loop-i.i in
    let inside : i < length edges = omega (arith, c.requires.count, c.loop-i-test.true) in
    let info = c.in_ok-info_of.ensures edges (ap (λ xs. get_or (rows xs) i []) c.deref.ensures.value ∙ c.in_ok-derived.ensures.each i inside) in
    let pushed = c.in_ok-append.ensures ∙ ap (λ x. c.loop-i.infos.items ++ x ∷ []) info in
    c.loop-i.invariant ∙ infos-more all i c.index-all-i.result c.loop-i-test.true (search rules) edges c.loop-i.infos.items
    ∙ ap (λ done. done ++ infos_from edges (i + 1) (drop (i + 1) (seen all))) (sym pushed)
