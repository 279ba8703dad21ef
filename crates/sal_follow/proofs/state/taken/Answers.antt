use Rattle.std.proofs.Common.{sym, ◌∙◌}
use Rattle.sal_follow.proofs.FramesFit.{frame-fits}
use Rattle.sal_follow.proofs.state.taken.Goals as goal

pub after_frame-requires-clause-fits : goal.after_frame-requires-clause-fits
after_frame-requires-clause-fits c = frame-fits c.args.reader.now.schema.now c.args.text.now c.in-Some.frame (sym c.in_ok-frame.ensures ∙ c.in-Some.is)
