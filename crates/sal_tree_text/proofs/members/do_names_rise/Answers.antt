use Rattle.std.proofs.Common.{◌≡◌, true, false, sym, ◌∙◌}
use Rattle.sal_tree_text.specs.Trees.{is_before}
use Rattle.sal_tree_text.proofs.NameOrder.{still_rise, rise_no_more, rise_to_end}
use Rattle.sal_tree_text.proofs.members.do_names_rise.Goals as goal

pub returns-then-not-is_before : goal.returns-then-not-is_before
returns-then-not-is_before c =
    let a = c.index-children-i.result in
    let b = c.index-children-i-in-loop-i.result in
    let e : is_before c.args.schema.now a.now.step b.now.step ≡ false = cc in
    sym (rise_no_more c.args.schema.now c.args.children.now c.loop-i.i a b c.loop-i.auto.i c.loop-i-test.true c.index-children-i.is c.index-children-i-in-loop-i.is e) ∙ c.loop-i.invariant

pub loop-i-preserved : goal.loop-i-preserved
loop-i-preserved c =
    let a = c.index-children-i.result in
    let b = c.index-children-i-in-loop-i.result in
    let e : is_before c.args.schema.now a.now.step b.now.step ≡ true = cc in
    still_rise c.args.schema.now c.args.children.now c.loop-i.i a b c.loop-i.auto.i c.loop-i-test.true c.index-children-i.is c.index-children-i-in-loop-i.is e ∙ c.loop-i.invariant

pub returns : goal.returns
returns c = sym (rise_to_end c.args.schema.now c.args.children.now c.loop-i.i c.loop-i.auto.i c.loop-i-test.false) ∙ c.loop-i.invariant
