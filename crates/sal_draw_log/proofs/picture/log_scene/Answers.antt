-- The answers are the log's, and so what is drawn of them.
use Rattle.std.proofs.Common.{◌∙◌}
use Rattle.sal_draw_log.proofs.DrawnLogs.{scene_by}
use Rattle.sal_draw_log.proofs.picture.log_scene.Goals as goal

pub returns : goal.returns
returns c world count whole =
    scene_by world c.args.log.now c.args.outcomes.now c.in_ok-retold.retold _ _ _ c.scene_of.result whole (c.in_ok-retold.ensures world count whole) (c.deref-2.ensures.value ∙ c.in_ok-made.ensures) c.deref.ensures.value c.deref-3.ensures.value
    c.scene_of.ensures
