use Rattle.std.proofs.Common.{◌∙◌}
use Rattle.sal_follow.proofs.Exporting.{opening}
use Rattle.sal_follow.proofs.commits.all_patches.Goals as goal

pub returns : goal.returns
returns c = c.in_ok-patches.ensures ∙ opening c.args.rows.now c.items.ensures.ascending
