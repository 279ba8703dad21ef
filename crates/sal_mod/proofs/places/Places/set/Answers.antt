use Rattle.std.proofs.Common.{ap, ◌∙◌}
use Rattle.std.specs.FinMap.{put}
use Rattle.sal_types.specs.Order.{path_cmp}
use Rattle.sal_mod.specs.Places.{by_path}
use Rattle.sal_mod.proofs.ByPath.{insert-by_path}
use Rattle.sal_mod.proofs.places.Places.set.Goals as goal

pub returns-clause-ok : goal.returns-clause-ok
returns-clause-ok c = ap by_path c.in_ok-insert.ensures.entries ∙ insert-by_path c.in_ok-key.key c.args.number c.self.inside.map.entries ∙ (λ i. put path_cmp (c.in_ok-key.ensures i) c.args.number (c.self.view_is i))
