-- The reader has the last version.
use Rattle.std.proofs.Common.{List, ap, ◌∙◌, subst, sym, length}
use Rattle.sal_hub.specs.HubHistory.{HubHistory}
use Rattle.sal_script.specs.Tables.{Versions, last_in}
use Rattle.sal_cluster.proofs.Epoching.{reader_there}
use Rattle.sal_cluster.proofs.leader.Leader.schema_of.Goals as goal

pub reader_of-reader-requires : goal.reader_of-reader-requires
reader_of-reader-requires c = reader_there c.readers.result.now c.args.self.now.broker.hub.world c.args.domain c.readers.ensures c.requires

pub returns : goal.returns
returns c = c.schema.ensures ∙ c.reader_of-reader.ensures ∙ ap (λ (ts : List Versions). last_in ts c.args.domain) c.readers.ensures
