use Rattle.std.proofs.Common.{◌≡◌, [], ap, sym, ◌∙◌, map, arith}
use Rattle.std.proofs.lemmas.Grind.{common_steps}
use Rattle.serde_json.specs.Data.{Data, array}
use Rattle.serde_json.specs.View.{view, items_of}
use Rattle.serde_json.proofs.Views.{view-Array}
use Rattle.std.proofs.Common.{List}
use Rattle.sal_data.proofs.Levels.{items_end}
use Rattle.sal_data.proofs.write.Writer.items_json.Goals as goal

pub returns : goal.returns
returns c =
    let rest = c.runs.rest.now in
    let none : rest ≡ [] = grind (arith, common_steps) in
    let all = sym (items_end c.args.self.now.schema.now c.args.node c.args.k rest (map view c.runs.items.items) none) ∙ c.runs.invariant in
    view-Array c.runs.items ∙ ap (λ (ds : List Data). array (items_of ds)) all
