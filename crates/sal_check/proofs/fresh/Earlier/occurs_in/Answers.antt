use Rattle.std.proofs.Common.{rules, ◌≡◌, true, false, sym, ap, ◌∙◌}
use Rattle.std.specs.List.{flat_map, list_any}
use Rattle.sal_node.specs.Tree.{Tree, pairs}
use Rattle.sal_node.specs.Shape.{seen, tree_at}
use Rattle.sal_check.specs.Near.{is_among, other_of}
use Rattle.sal_check.specs.Uniques.{ways_in}
use Rattle.sal_check.proofs.Counted.{grove-child, seen-all}
use Rattle.sal_check.proofs.FreshCells.{any-none, any-found}
use Rattle.sal_check.proofs.fresh.Earlier.occurs_in.Goals as goal

pub is_known-requires : goal.is_known-requires
is_known-requires c =
    let same : seen c.deref-child-items.result.now ≡ pairs c.args.list.now.value.kids = ap seen c.deref-child-items.ensures.value ∙ c.in_ok-children.ensures ∙ ap (λ (t : Tree). pairs t.kids) c.deref.ensures in
    record { before = c.requires.before; sound = grove-child c.args.list.now.value.kids c.deref-child-items.result.now c.loop-child.child-index c.child-item.result c.requires.sound same c.loop-child-test.true c.child-item.is }

pub returns-then-branch : goal.returns-then-branch
returns-then-branch c xs holds =
    let same : seen c.deref-child-items.result.now ≡ pairs c.args.list.now.value.kids = ap seen c.deref-child-items.ensures.value ∙ c.in_ok-children.ensures ∙ ap (λ (t : Tree). pairs t.kids) c.deref.ensures in
    let yes : c.in_ok-is_known.field-0 ≡ true = search rules in
    any-found (other_of c.args.self.now.stamps.now (ways_in c.args.self.now.ways.now) (tree_at c.args.self.now.list)) (is_among xs) c.deref-child-items.result.now (pairs c.args.list.now.value.kids) c.loop-child.child-index c.child-item.result same c.loop-child-test.true c.child-item.is (c.loop-child.invariant xs holds)
    (sym (c.in_ok-is_known.ensures xs holds) ∙ yes)

pub loop-child-preserved : goal.loop-child-preserved
loop-child-preserved c xs holds =
    let no : c.in_ok-is_known.field-0 ≡ false = search rules in
    any-none (other_of c.args.self.now.stamps.now (ways_in c.args.self.now.ways.now) (tree_at c.args.self.now.list)) (is_among xs) c.deref-child-items.result.now c.loop-child.child-index c.child-item.result c.loop-child-test.true c.child-item.is (c.loop-child.invariant xs holds)
    (sym (c.in_ok-is_known.ensures xs holds) ∙ no)

pub returns : goal.returns
returns c xs holds =
    let others = other_of c.args.self.now.stamps.now (ways_in c.args.self.now.ways.now) (tree_at c.args.self.now.list) in
    let same : seen c.deref-child-items.result.now ≡ pairs c.args.list.now.value.kids = ap seen c.deref-child-items.ensures.value ∙ c.in_ok-children.ensures ∙ ap (λ (t : Tree). pairs t.kids) c.deref.ensures in
    sym (ap (λ es. list_any (is_among xs) (flat_map others es)) (sym (seen-all c.deref-child-items.result.now c.loop-child.child-index c.loop-child-test.false ∙ same)) ∙ c.loop-child.invariant xs holds)
