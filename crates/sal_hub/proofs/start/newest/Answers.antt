-- The newest commit has the newest trees.
use Rattle.std.proofs.Common.{◌≡◌, ◌-◌, List, length, refl, ap, ◌∙◌, arith}
use Rattle.std.proofs.lemmas.Grind.{common_steps}
use Rattle.sal_tree.specs.declared.commit.Commit.{Commit}
use Rattle.sal_tree.specs.declared.commit.Pair.{Pair}
use Rattle.sal_rows.specs.Clash.{tip}
use Rattle.sal_graft.specs.Kept.{opening_in, ops_of, rows_in}
use Rattle.sal_graft.proofs.KeptLemmas.{length-ops_of}
use Rattle.sal_hub.proofs.start.newest.Goals as goal

pub returns : goal.returns
returns c =
    let kept = c.args.domain.now.commits.items in
    let long : length (ops_of kept) ≡ length kept - 1 = length-ops_of kept c.requires.opened in
    let count : c.len.result - 1 ≡ length (ops_of kept) = grind (arith, common_steps, long) in
    record {
      commit = count;
      alone = refl;
      trees = λ s.
          ap (λ (p : Pair). rows_in p s) c.in_ok-trees.ensures ∙ c.last_commit.ensures s
          ∙ ap (λ (xs : List Commit). tip (opening_in xs) (ops_of xs) s) c.deref.ensures.value;
    }
