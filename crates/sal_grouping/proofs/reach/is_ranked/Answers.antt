use Rattle.std.proofs.Common.{◌≡◌, ◌∙◌, ℕ, [], true, get_or, nat_le, sym, ap, arith, below_more}
use Rattle.std.specs.Prelude.{Vec}
use Rattle.std.specs.declared.alloc.Global.{Global}
use Rattle.std.specs.List.{list_all}
use Rattle.std.proofs.lemmas.Grind.{common_steps}
use Rattle.std.proofs.lemmas.Bool.Decides.{nat_tests}
use Rattle.sal_grouping.specs.Indexes.{lists}
use Rattle.sal_grouping.proofs.IndexLists.{lists-get}
use Rattle.sal_grouping.proofs.reach.is_ranked.Goals as goal

pub loop-g-preserved : goal.loop-g-preserved
loop-g-preserved c =
    let edges = c.args.edges.now in
    let ranks = c.args.ranks.now in
    let g = c.loop-g.g in
    let item = c.index-edges-g.result in
    let got : get_or (lists edges) g [] ≡ item.items = lists-get edges g item c.loop-g-test.true ∙ ap (λ (v : Vec ℕ Global). v.items) (sym c.index-edges-g.is) in
    let all = rw (c.rank_at.ensures, c.as_slice.ensures.value) at c.is_above.ensures in
    let holds : c.is_above.result ≡ true = grind (arith, nat_tests, common_steps) in
    let here : list_all (λ k. nat_le (get_or ranks k 0) (get_or ranks g 0)) (get_or (lists edges) g []) ≡ true = rw got (sym all ∙ holds) in
    below_more _ _ c.loop-g.invariant here
