use Rattle.std.proofs.Common.{true, false, sym, ◌∙◌}
use Rattle.sal_follow.specs.States.{both_in}
use Rattle.sal_follow.proofs.NearTrees.{judged-near}
use Rattle.sal_follow.proofs.trees.trees_after.Goals as goal

pub returns-then-is_good_near : goal.returns-then-is_good_near
returns-then-is_good_near c =
    judged-near c.args.reader.now.schema.now (both_in c.args.state.now) c.in_ok-after.after c.args.frame.now true c.root.ensures.ascending c.root-2.ensures.ascending c.requires.sound.trees c.requires.fits
    c.in_ok-after.ensures.config c.in_ok-after.ensures.oper
    (sym c.if-is_good_near.true ∙ c.is_good_near.ensures)

pub returns-else-is_good_near : goal.returns-else-is_good_near
returns-else-is_good_near c =
    judged-near c.args.reader.now.schema.now (both_in c.args.state.now) c.in_ok-after.after c.args.frame.now false c.root.ensures.ascending c.root-2.ensures.ascending c.requires.sound.trees c.requires.fits
    c.in_ok-after.ensures.config c.in_ok-after.ensures.oper
    (sym c.if-is_good_near.false ∙ c.is_good_near.ensures)
