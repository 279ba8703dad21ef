use Rattle.std.proofs.Common.{ap, sym, ◌∙◌}
use Rattle.sal_tree.specs.Rows.{rows_of}
use Rattle.sal_tree.specs.declared.commit.Commit.{Commit}
use Rattle.sal_graft.specs.Kept.{rows_in}
use Rattle.sal_graft.proofs.KeptLemmas.{tip-kept}
use Rattle.sal_graft.proofs.search.tip_of.Goals as goal

pub returns : goal.returns
returns c = ap rows_of c.tree_of.ensures ∙ ap (λ (x : Commit). rows_in x.trees c.args.store) (sym c.index-commits-commits.is) ∙ tip-kept c.args.commits.now c.index-commits-commits.result c.args.store c.requires c.index-commits-commits.is
