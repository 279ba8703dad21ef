-- The entry is the log's next, and what is kept stays the log's.
use Rattle.sal_hub.proofs.Upgrading.{refused_fails, refused_kept}
use Rattle.sal_hub.proofs.version_calls.refuse.Goals as goal

pub returns-in-Ok-clause-kept : goal.returns-in-Ok-clause-kept
returns-in-Ok-clause-kept c = refused_kept c.args.journal.now c.add.new.self c.args.pipeline.now c.requires.kept c.args.client c.args.version c.in-Ok.ensures.log c.args.fault c.requires.refused c.in-Ok.ensures.marks

pub returns-in-Ok-clause-answer : goal.returns-in-Ok-clause-answer
returns-in-Ok-clause-answer c = refused_fails c.args.journal.now c.add.new.self c.args.pipeline.now c.requires.kept c.args.client c.args.version c.in-Ok.ensures.log c.args.fault c.requires.refused c.requires.room
