use Rattle.std.proofs.Common.{ap, sym, ◌∙◌}
use Rattle.std.specs.List.{slice_get}
use Rattle.sal_json.specs.Patterns.{type_searched}
use Rattle.sal_json.proofs.Listed.{slice_get-map}
use Rattle.sal_json.proofs.read.wholes_of.Goals as goal

pub returns : goal.returns
returns c here e = slice_get-map type_searched c.args.schema.now.types c.args.ty here _ e (ap (λ all. slice_get all c.args.ty) (sym c.requires.compiled) ∙ c.of_type.ensures)
