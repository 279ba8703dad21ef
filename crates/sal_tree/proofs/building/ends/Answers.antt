use Rattle.std.proofs.Common.{ap, ◌∙◌, arith}
use Rattle.std.proofs.lemmas.Bool.Decides.{nat_tests}
use Rattle.sal_types.specs.declared.value.Step.{Step}
use Rattle.std.proofs.Common.{List, drop}
use Rattle.sal_tree.specs.Rows.{is_root}
use Rattle.sal_tree.proofs.Runs.{ends-at}
use Rattle.sal_tree.proofs.building.ends.Goals as goal

pub returns : goal.returns
returns c = ends-at _ c.steps.result.now c.args.depth (λ e. grind (arith, nat_tests)) (λ e. grind (arith, nat_tests)) ∙ ap (λ (p : List Step). is_root (drop c.args.depth p)) c.steps.ensures.all
