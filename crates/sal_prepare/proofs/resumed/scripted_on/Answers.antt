-- The own device, and then the others.
use Rattle.std.proofs.Common.{◌≡◌, [], ◌∷◌, ◌++◌, List, ap, sym, subst, ◌∙◌}
use Rattle.sal_schema.specs.declared.table.SchemaTable.{SchemaTable}
use Rattle.sal_history.specs.World.{Domain}
use Rattle.sal_script.specs.Reading.{parts}
use Rattle.sal_script.specs.Tables.{versions_in}
use Rattle.sal_hub.specs.Openings.{world_of}
use Rattle.sal_prepare.specs.Each.{each_from}
use Rattle.sal_prepare.specs.Resumed.{with_own}
use Rattle.sal_prepare.specs.Scripted.{IsStatusOf, after_these, domain_with, opening_by}
use Rattle.sal_prepare.proofs.Each.{comes_err}
use Rattle.sal_prepare.proofs.resumed.scripted_on.Goals as goal

pub returns : goal.returns
returns c =
    let rules = c.args.script.now.rules in
    let make = opening_by rules c.args.readers.now in
    let others = each_from make 1 (parts c.args.script.now).devices in
    let versions : List SchemaTable = versions_in c.args.readers.now 0 in
    let same = c.versions_at.ensures.tables ∙ ap (λ (ts : List (List SchemaTable)). versions_in ts 0) (sym c.requires.schemas) in
    let own : world_of rules c.add_device.new.devices.items ≡ domain_with rules versions c.args.own ∷ [] =
    c.in_ok-add_device.ensures rules ∙ (λ i. world_of rules (c.new-devices.ensures.items i) ++ domain_with rules (same i) c.args.own ∷ []) in
    ap (λ (w : List Domain). after_these w others) (sym own) ∙ c.in_ok-add_others.ensures

pub returns-in_err-add_others : goal.returns-in_err-add_others
returns-in_err-add_others c =
    let rules = c.args.script.now.rules in
    let make = opening_by rules c.args.readers.now in
    let others = each_from make 1 (parts c.args.script.now).devices in
    let versions : List SchemaTable = versions_in c.args.readers.now 0 in
    let same = c.versions_at.ensures.tables ∙ ap (λ (ts : List (List SchemaTable)). versions_in ts 0) (sym c.requires.schemas) in
    let own : world_of rules c.add_device.new.devices.items ≡ domain_with rules versions c.args.own ∷ [] =
    c.in_ok-add_device.ensures rules ∙ (λ i. world_of rules (c.new-devices.ensures.items i) ++ domain_with rules (same i) c.args.own ∷ []) in
    let e = c.in_err-add_others.field-0.0 in
    comes_err _ (with_own (domain_with rules versions c.args.own) [] others) _ e c.from_residual-in_err-add_others.ensures.1
    (subst (λ (w : List Domain). IsStatusOf (after_these w others) e) own c.in_err-add_others.ensures)
