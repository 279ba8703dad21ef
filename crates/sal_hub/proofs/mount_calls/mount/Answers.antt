-- The entry is the log's next, and what is kept stays the log's.
use Rattle.std.proofs.Common.{refl, sym, subst}
use Rattle.sal_rows.specs.declared.outcome.CallFault.{CallFault}
use Rattle.sal_mount.specs.declared.call.MountCall.TheVariants as asked
use Rattle.sal_history.specs.declared.call.Call.TheVariants.{Mount}
use Rattle.sal_hub.specs.Answers.{Fails}
use Rattle.sal_hub.specs.Current.{known_of}
use Rattle.sal_hub.specs.HubHistory.{entry_of}
use Rattle.sal_hub.proofs.Mounting.{mount_answer, mount_kept, mount_low, mount_mounts, refused_answer, refused_kept, refused_mounts}
use Rattle.sal_hub.proofs.mount_calls.mount.Goals as goal

pub set_live-requires-clause-there : goal.set_live-requires-clause-there
set_live-requires-clause-there c =
    mount_low c.args.journal.now c.add_mount.new.journal c.args.pipeline.now c.requires.service.kept c.args.mounts.now c.add_mount.new.mounts c.requires.service.served c.args.ask.now.client c.args.ask.now.path.now c.args.ask.now.device c.in-Ok.ensures.made

pub returns-in-Ok-clause-service : goal.returns-in-Ok-clause-service
returns-in-Ok-clause-service c = record {
  kept =
      mount_kept c.args.journal.now c.add_mount.new.journal c.args.pipeline.now c.requires.service.kept c.args.mounts.now c.add_mount.new.mounts c.requires.service.served c.args.ask.now.client c.args.ask.now.path.now c.args.ask.now.device c.in-Ok.ensures.made
      c.in-Ok.ensures.entry c.set_live.new.self c.set_live.ensures.kept c.set_live.ensures.queue;
  served =
      mount_mounts c.args.journal.now c.add_mount.new.journal c.args.pipeline.now c.requires.service.kept c.args.mounts.now c.add_mount.new.mounts c.requires.service.served c.args.ask.now.client c.args.ask.now.path.now c.args.ask.now.device c.in-Ok.ensures.made
      c.in-Ok.ensures.entry c.set_live.new.self c.set_live.ensures.kept c.set_live.ensures.queue;
}

pub returns-in-Ok-clause-answer : goal.returns-in-Ok-clause-answer
returns-in-Ok-clause-answer c =
    mount_answer c.args.journal.now c.add_mount.new.journal c.args.pipeline.now c.requires.service.kept c.args.mounts.now c.add_mount.new.mounts c.requires.service.served c.args.ask.now.client c.args.ask.now.path.now c.args.ask.now.device c.in-Ok.ensures.made
    c.in-Ok.ensures.entry c.set_live.new.self c.set_live.ensures.kept c.set_live.ensures.queue c.requires.room

pub returns-in-Err-clause-service : goal.returns-in-Err-clause-service
returns-in-Err-clause-service c = record {
  kept =
      refused_kept c.args.journal.now c.add_mount.new.journal c.args.pipeline.now c.requires.service.kept c.args.mounts.now c.add_mount.new.mounts c.requires.service.served c.args.ask.now.client (Mount c.args.ask.now.path.now c.args.ask.now.device) (asked.Mount c.args.ask.now.path.now c.args.ask.now.device) refl
      c.in-Err.fault c.in-Err.ensures.made c.in-Err.ensures.entry;
  served =
      refused_mounts c.args.journal.now c.add_mount.new.journal c.args.pipeline.now c.requires.service.kept c.args.mounts.now c.add_mount.new.mounts c.requires.service.served c.args.ask.now.client (Mount c.args.ask.now.path.now c.args.ask.now.device) (asked.Mount c.args.ask.now.path.now c.args.ask.now.device) refl
      c.in-Err.fault c.in-Err.ensures.made c.in-Err.ensures.entry;
}

pub returns-in-Err-clause-answer : goal.returns-in-Err-clause-answer
returns-in-Err-clause-answer c =
    let j = c.args.journal.now in
    let p = c.args.pipeline.now in
    subst (λ (f : CallFault). Fails (known_of j p) (known_of c.add_mount.new.journal p) (entry_of (known_of j p) c.args.ask.now.client (Mount c.args.ask.now.path.now c.args.ask.now.device)) f) (sym c.mount_fault.ensures)
    (refused_answer j c.add_mount.new.journal p c.requires.service.kept c.args.mounts.now c.add_mount.new.mounts c.requires.service.served c.args.ask.now.client (Mount c.args.ask.now.path.now c.args.ask.now.device) (asked.Mount c.args.ask.now.path.now c.args.ask.now.device) refl
    c.requires.room c.in-Err.fault c.in-Err.ensures.made c.in-Err.ensures.entry)
