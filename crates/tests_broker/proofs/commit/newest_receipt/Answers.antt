-- The commit at the last place is the one that was read there.
use Rattle.std.proofs.Common.{◌-◌, length, ap, sym, ◌∙◌, arith}
use Rattle.std.proofs.lemmas.List.{get_or_read}
use Rattle.sal_tree.specs.declared.commit.Commit.{Commit}
use Rattle.tests_broker.proofs.commit.newest_receipt.Goals as goal

pub returns : goal.returns
returns c = λ k e.
    let commits = c.args.commits.now in
    ap (λ (x : Commit). x.receipt) (get_or_read commits (length commits - 1) k (omega (arith, c.requires)) e _ ∙ sym c.newest.ensures)
