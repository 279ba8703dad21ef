use Rattle.std.proofs.Common.{ap, ◌∙◌}
use Rattle.std.specs.FinMap.{find}
use Rattle.sal_types.specs.Order.{path_cmp}
use Rattle.sal_mod.proofs.ByPath.{lookup-by_path}
use Rattle.sal_mod.proofs.places.Places.at.Goals as goal

pub returns : goal.returns
returns c = c.copied.ensures ∙ c.get.ensures.value ∙ lookup-by_path c.args.steps.now c.self.inside.map.entries ∙ ap (find path_cmp c.args.steps.now) c.self.view_is
