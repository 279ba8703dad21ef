use Rattle.std.proofs.Common.{◌≡◌, ◌∙◌, ◌-◌, ◌<◌, take, map, sym, ap, arith}
use Rattle.std.proofs.lemmas.List.{take_all}
use Rattle.sal_grouping.specs.Indexes.{lists}
use Rattle.sal_module_table.specs.Filled.{type_at, filled, node_type}
use Rattle.sal_module_table.proofs.Fillings.{type-zero, type-some}
use Rattle.sal_module_table.proofs.fill.+type_in.Goals as goal

pub returns-then-steps-eq0 : goal.returns-then-steps-eq0
returns-then-steps-eq0 t c =
    let edges = lists c.args.edges.now in
    c.empty_type.ensures ∙ sym (ap (λ n. node_type c.args.own.now edges n c.args.k) c.if-steps-eq0.true ∙ type-zero c.args.own.now edges c.args.k)

pub returns : goal.returns
returns t c =
    let a = c.args in
    let edges = lists a.edges.now in
    let targets = c.out_of-target-items.result.now in
    let some : 0 < a.steps = omega (arith, c.if-steps-eq0.false) in
    let whole : take c.loop-target.target-index targets ≡ targets = take_all c.loop-target.target-index targets c.loop-target-test.false in
    let types = c.deref.ensures.value ∙ c.loop-target.invariant ∙ ap (map (node_type a.own.now edges (a.steps - 1))) (whole ∙ c.out_of-target-items.ensures) in
    c.in_ok-t.ensures ∙ ap (filled (type_at a.own.now a.k)) types ∙ sym (type-some a.own.now edges a.steps a.k some)
