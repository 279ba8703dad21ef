use Rattle.std.proofs.Common.{◌≡◌, List, Vec, Global, Bor, ap, ◌∙◌}
use Rattle.std.specs.BTreeMap.{values}
use Rattle.sal_node.specs.Shape.{seen}
use Rattle.sal_node.specs.declared.node.Child.{Child}
use Rattle.serde_json.specs.Data.{Members}
use Rattle.sal_tree_text.specs.Trees.{with_child, members_in, members_by_name}
use Rattle.sal_tree_text.proofs.NameOrder.{by_name-more, by_name-all, members_of_map}
use Rattle.sal_tree_text.proofs.TreeTexts.{if_ok}
use Rattle.sal_tree_text.proofs.members.by_name.Goals as goal

pub loop-child-preserved : goal.loop-child-preserved
loop-child-preserved c = record {
  named = c.in_ok-add_child.ensures.named;
  members = λ f.
      let child = c.child-item.result in
      c.in_ok-add_child.ensures.members f
      ∙ ap (λ (ms : Members). with_child c.args.schema.now c.args.parent f ms child.now.step child.now.node.value) (c.loop-child.invariant.members f)
      ∙ by_name-more c.args.schema.now c.args.parent f c.args.children.now c.loop-child.child-index child c.loop-child-test.true c.child-item.is;
}

pub returns : goal.returns
returns c = λ f.
    let table = c.args.schema.now in
    let parent = c.args.parent in
    let es = c.loop-child.named.entries in
    if_ok (λ (list : Vec (Bor Child) Global). list.items ≡ values c.loop-child.named) (λ (list : Vec (Bor Child) Global). members_in table parent f (seen list.items) ≡ members_by_name table parent f (seen c.args.children.now)) c.children_of.result
    (λ list e.
    ap (λ (cs : List (Bor Child)). members_in table parent f (seen cs)) e ∙ members_of_map table parent f es c.loop-child.invariant.named ∙ c.loop-child.invariant.members f
    ∙ by_name-all table parent f c.args.children.now c.loop-child.child-index c.loop-child-test.false)
    c.children_of.ensures
