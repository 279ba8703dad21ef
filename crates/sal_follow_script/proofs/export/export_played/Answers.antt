-- The first of the schemas is that of domain 0.
use Rattle.std.proofs.Common.{◌∙◌}
use Rattle.sal_follow_script.proofs.Leader.{first_last}
use Rattle.sal_follow_script.proofs.export.export_played.Goals as goal

pub hub_frames-bytes-requires-clause-some : goal.hub_frames-bytes-requires-clause-some
hub_frames-bytes-requires-clause-some c = (first_last c.args.schemas.now c.args.played.hub.world c.index-schemas-0.result c.requires.some c.index-schemas-0.is c.requires.schemas).0

pub hub_frames-bytes-requires-clause-schema : goal.hub_frames-bytes-requires-clause-schema
hub_frames-bytes-requires-clause-schema c =
    c.deref.ensures ∙ (first_last c.args.schemas.now c.args.played.hub.world c.index-schemas-0.result c.requires.some c.index-schemas-0.is c.requires.schemas).1
