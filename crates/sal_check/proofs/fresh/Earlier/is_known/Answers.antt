use Rattle.std.proofs.Common.{rules, ◌≡◌, ◌&&◌, List, false, Some, sym, ap, ◌∙◌}
use Rattle.std.specs.Option.{option_map}
use Rattle.std.specs.Borrow.{Bor}
use Rattle.std.specs.declared.alloc.Global.{Global}
use Rattle.std.specs.declared.vec.Vec.{Vec}
use Rattle.sal_types.specs.declared.value.Cell.{Cell}
use Rattle.sal_node.specs.Shape.{tree_at}
use Rattle.sal_tree.specs.Grow.{kid}
use Rattle.sal_check.specs.Near.{differs, is_among, is_fresh, is_new, leafs_of}
use Rattle.sal_check.specs.Uniques.{cells_in, ways_in}
use Rattle.sal_check.proofs.FreshCells.{known-other}
use Rattle.sal_check.proofs.fresh.Earlier.is_known.Goals as goal

pub returns : goal.returns
returns c xs holds =
    let node = c.args.child.now.node.value in
    let ways = ways_in c.args.self.now.ways.now in
    let stamps = c.args.self.now.stamps.now in
    let o = tree_at c.args.self.now.list in
    let has : leafs_of ways (Some node) ≡ Some (cells_in c.in-Some.cells.items) =
    sym c.in_ok-cells.ensures ∙ ap (option_map (λ (v : Vec (Bor Cell) Global). cells_in v.items)) c.in-Some.is in
    let no : c.in_ok-is_fresh.field-0 ≡ false = search rules in
    let old : is_fresh stamps ways o (c.args.child.now.step, node) ≡ false =
    ap (λ cells. is_new stamps node.stamp && differs (leafs_of ways (kid o c.args.child.now.step)) cells) (has ∙ ap (λ (cs : List (Bor Cell)). Some (cells_in cs)) (sym c.deref.ensures.value))
    ∙ sym c.in_ok-is_fresh.ensures ∙ no in
    c.contains.ensures ∙ holds c.as_slice.result ∙ ap (λ (cs : List (Bor Cell)). is_among xs (cells_in cs)) c.as_slice.ensures.value
    ∙ known-other stamps ways o (is_among xs) (c.args.child.now.step, node) (cells_in c.in-Some.cells.items) has old
