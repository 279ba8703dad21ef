-- The entry is the log's next, and the answer is the log's.
use Rattle.std.proofs.Common.{refl}
use Rattle.sal_mount.specs.declared.call.MountCall.TheVariants as asked
use Rattle.sal_mount.specs.declared.call.MountReply.TheVariants as given
use Rattle.sal_history.specs.declared.call.Call.TheVariants.{MountAt}
use Rattle.sal_hub.proofs.Mounting.{answer_now, mounts_now, same_kept}
use Rattle.sal_hub.proofs.mount_calls.mount_at.Goals as goal

pub returns-in-Ok-clause-service : goal.returns-in-Ok-clause-service
returns-in-Ok-clause-service c = record {
  kept =
      same_kept c.args.journal.now c.note_question.new.journal c.args.pipeline.now c.requires.service.kept c.args.mounts.now c.args.mounts.now c.requires.service.served c.args.client (MountAt c.args.path.now) (asked.MountAt c.args.path.now) refl
      (given.MountAt c.mount_at.result) c.mount_at.ensures.answer c.in-Ok.ensures.entry refl (λ n. refl);
  served =
      mounts_now c.args.journal.now c.note_question.new.journal c.args.pipeline.now c.requires.service.kept c.args.mounts.now c.args.mounts.now c.requires.service.served c.args.client (MountAt c.args.path.now) (asked.MountAt c.args.path.now) refl
      (given.MountAt c.mount_at.result) c.mount_at.ensures.answer c.in-Ok.ensures.entry c.args.pipeline.now refl;
}

pub returns-in-Ok-clause-answer : goal.returns-in-Ok-clause-answer
returns-in-Ok-clause-answer c =
    answer_now c.args.journal.now c.note_question.new.journal c.args.pipeline.now c.requires.service.kept c.args.mounts.now c.args.mounts.now c.requires.service.served c.args.client (MountAt c.args.path.now) (asked.MountAt c.args.path.now) refl
    (given.MountAt c.mount_at.result) c.mount_at.ensures.answer c.in-Ok.ensures.entry c.args.pipeline.now refl c.requires.room
