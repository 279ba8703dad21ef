-- The tables and the tree are those of the domain.
use Rattle.std.proofs.Common.{◌<◌, length, map, ap, sym, ◌∙◌, subst}
use Rattle.sal_follow.specs.States.{Following}
use Rattle.sal_follow.specs.Stream.{rows_held}
use Rattle.sal_script.specs.Tables.{last_among, last_in}
use Rattle.sal_prepare.specs.Scripted.{tables_in}
use Rattle.sal_cluster.specs.declared.standby.Standing.{Standing}
use Rattle.sal_cluster.proofs.Epoching.{reader_among}
use Rattle.sal_cluster.proofs.Looking.{same}
use Rattle.sal_cluster.proofs.standby.StandBy.look.Goals as goal

pub reader_of-reader-requires : goal.reader_of-reader-requires
reader_of-reader-requires c =
    let n = c.args.place.domain in
    let it = c.self.inside.standing in
    let inside : n < length it.followers.items = subst (λ (s : Standing). n < length s.followers.items) (sym c.self.view_is) c.requires in
    reader_among it.ground.readers (length it.followers.items) n c.self.invariant inside

pub returns : goal.returns
returns c =
    let n = c.args.place.domain in
    let s = c.args.place.store in
    let it = c.self.inside.standing in
    let tables = ap tables_in c.deref.ensures.value ∙ it.ground.tables ∙ ap (λ (x : Standing). map last_among x.ground.readers) c.self.view_is in
    let table = c.reader_of-reader.ensures ∙ ap (λ (x : Standing). last_in x.ground.readers n) c.self.view_is in
    let rows = c.tree.ensures ∙ ap (λ (f : Following). rows_held f.held s) c.follower.ensures in
    same _ _ _ _ n _ _ c.args.path.now c.look_in_tree.result tables table rows c.look_in_tree.ensures
