use Rattle.std.proofs.Common.{sym, ◌∙◌}
use Rattle.sal_follow.proofs.Runs.{moved-held, moved-sound, spoiled-held}
use Rattle.sal_follow.proofs.state.after_next.Goals as goal

pub returns-in-Some-clause-held : goal.returns-in-Some-clause-held
returns-in-Some-clause-held c =
    moved-held c.args.reader.now.schema.now c.args.state c.moved.result c.in-Some.both c.args.came.size c.args.came.frame (sym c.in_ok-both.ensures ∙ c.in-Some.is) c.moved.ensures

pub returns-in-Some-clause-sound : goal.returns-in-Some-clause-sound
returns-in-Some-clause-sound c =
    moved-sound c.args.reader.now.schema.now c.args.state c.moved.result c.in-Some.both c.args.came.size c.args.came.frame (sym c.in_ok-both.ensures ∙ c.in-Some.is) c.moved.ensures c.requires.some c.requires.next c.requires.sound

pub returns-in-None-clause-held : goal.returns-in-None-clause-held
returns-in-None-clause-held c =
    spoiled-held c.args.reader.now.schema.now c.args.state c.failed.result c.args.came.size c.args.came.frame.commit c.args.came.frame.config c.args.came.frame.oper (sym c.in_ok-both.ensures ∙ c.in-None.is) c.failed.ensures.held
