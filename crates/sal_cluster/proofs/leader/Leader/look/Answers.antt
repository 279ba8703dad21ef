-- The tables and the tree are those of the hub.
use Rattle.std.proofs.Common.{◌≡◌, ◌<◌, List, length, ap, sym, ◌∙◌, subst}
use Rattle.sal_tree.specs.Rows.{rows_of}
use Rattle.sal_history.specs.History.{newest_tree}
use Rattle.sal_hub.specs.HubHistory.{HubHistory}
use Rattle.sal_script.specs.Tables.{Versions, last_in}
use Rattle.sal_cluster.proofs.Epoching.{reader_there}
use Rattle.sal_cluster.proofs.Looking.{same}
use Rattle.sal_cluster.proofs.leader.Leader.look.Goals as goal

pub reader_of-reader-requires : goal.reader_of-reader-requires
reader_of-reader-requires c = reader_there c.readers.result.now c.args.self.now.broker.hub.world c.args.place.domain c.readers.ensures c.requires

pub trees_of-requires : goal.trees_of-requires
trees_of-requires c = subst (λ (h : HubHistory). c.args.place.domain < length h.world) (sym c.hub.ensures) c.requires

pub returns : goal.returns
returns c =
    let s = c.args.place.store in
    let n = c.args.place.domain in
    let h : HubHistory = c.args.self.now.broker.hub in
    let rows : rows_of c.tree_of-tree.result.now ≡ newest_tree h.world h.log n s =
    ap rows_of c.tree_of-tree.ensures ∙ c.trees_of.ensures s ∙ ap (λ (k : HubHistory). newest_tree k.world k.log n s) c.hub.ensures in
    same _ _ _ _ n _ _ c.args.path.now c.look_in_tree.result c.schemas.ensures.tables (c.reader_of-reader.ensures ∙ ap (λ (ts : List Versions). last_in ts n) c.readers.ensures) rows c.look_in_tree.ensures
