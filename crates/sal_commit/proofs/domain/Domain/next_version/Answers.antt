-- The version is the one that is asked for, and its fault that of the newest trees.
use Rattle.std.proofs.Common.{◌≡◌, List, ap, sym, ◌∙◌, inr}
use Rattle.sal_types.specs.declared.value.Store.{Store}
use Rattle.sal_tree.specs.declared.commit.Commit.{Commit}
use Rattle.sal_rows.specs.Clash.{tip}
use Rattle.sal_graft.specs.Kept.{opening_in, ops_of, rows_in}
use Rattle.sal_commit.specs.Versions.{newest_in, version_in}
use Rattle.sal_commit.proofs.VersionTables.{next-fault, version-of}
use Rattle.sal_commit.proofs.domain.Domain.next_version.Goals as goal

pub returns-in-None-clause-next : goal.returns-in-None-clause-next
returns-in-None-clause-next c = (c.in_ok-next.ensures.number, c.in_ok-next.ensures.schema ∙ version-of c.args.self.now c.args.number c.index.result.now c.requires.low c.requires.high c.index.ensures)

pub returns-in-None-clause-fault : goal.returns-in-None-clause-fault
returns-in-None-clause-fault c =
    let d = c.args.self.now in
    let table : c.in_ok-next.next.plan.schema.value ≡ version_in d c.args.number =
    c.in_ok-next.next.planned ∙ c.in_ok-next.ensures.schema ∙ version-of d c.args.number c.index.result.now c.requires.low c.requires.high c.index.ensures in
    let trees : (s : Store) → rows_in c.newest_trees.result.now s ≡ newest_in d s = λ s.
    c.newest_trees.ensures s ∙ ap (λ (ks : List Commit). tip (opening_in ks) (ops_of ks) s) c.deref.ensures.value in
    sym (next-fault d c.args.number c.in_ok-next.next.plan.schema.value (rows_in c.newest_trees.result.now) table trees) ∙ sym c.in_ok-fault_in.ensures ∙ c.in-None.is

pub returns-in-Some-clause-fault : goal.returns-in-Some-clause-fault
returns-in-Some-clause-fault c =
    let d = c.args.self.now in
    let table : c.in_ok-next.next.plan.schema.value ≡ version_in d c.args.number =
    c.in_ok-next.next.planned ∙ c.in_ok-next.ensures.schema ∙ version-of d c.args.number c.index.result.now c.requires.low c.requires.high c.index.ensures in
    let trees : (s : Store) → rows_in c.newest_trees.result.now s ≡ newest_in d s = λ s.
    c.newest_trees.ensures s ∙ ap (λ (ks : List Commit). tip (opening_in ks) (ops_of ks) s) c.deref.ensures.value in
    inr (sym (next-fault d c.args.number c.in_ok-next.next.plan.schema.value (rows_in c.newest_trees.result.now) table trees) ∙ sym c.in_ok-fault_in.ensures ∙ c.in-Some.is)
