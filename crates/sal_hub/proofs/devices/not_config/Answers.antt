-- The first row of a state node is named.
use Rattle.std.proofs.Common.{◌≡◌, List, Option, Some, inr, ap, sym, ◌∙◌}
use Rattle.std.specs.Prelude.{find}
use Rattle.std.specs.Option.{option_copied, option_map}
use Rattle.sal_types.specs.declared.value.Step.{Step}
use Rattle.sal_types.specs.declared.row.Row.{Row}
use Rattle.sal_schema.specs.Fitting.{is_of_state}
use Rattle.sal_hub.specs.declared.opening.OpenFault.TheVariants.{NotConfig}
use Rattle.sal_hub.proofs.devices.not_config.Goals as goal

pub returns-in_ok-path-in-Some : goal.returns-in_ok-path-in-Some
returns-in_ok-path-in-Some c =
    let device = c.args.device.now in
    let found : find (λ (row : Row). is_of_state device.schema.value row.path) device.opening.config ≡ Some c.in-Some.row.now =
    sym (c.first_state.ensures ∙ (λ i. find (λ (row : Row). is_of_state (c.deref.ensures i) row.path) (c.items.ensures.all i))) ∙ ap option_copied c.in-Some.is in
    inr (ap (λ (o : Option Row). option_map (NotConfig c.args.number) (option_map (λ (row : Row). row.path) o)) found ∙ ap (λ (path : List Step). Some (NotConfig c.args.number path)) (sym c.in_ok-path-in-Some.ensures))
