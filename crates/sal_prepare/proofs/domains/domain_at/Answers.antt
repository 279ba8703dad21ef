-- The domains of the devices are after the controller's own.
use Rattle.std.proofs.Common.{rules, ◌≡◌, ℕ, ◌-◌, ◌<◌, suc, List, length, get_or, Some, ap, sym, ◌∙◌, subst, arith}
use Rattle.std.proofs.lemmas.List.{length-map}
use Rattle.serde_json.specs.View.{view}
use Rattle.sal_script.specs.declared.script.ScriptDevice.{ScriptDevice}
use Rattle.sal_script.specs.Script.{DeviceParts}
use Rattle.sal_script.specs.Reading.{device, devices}
use Rattle.sal_prepare.proofs.Numbered.{behind_own}
use Rattle.sal_prepare.proofs.domains.domain_at.Goals as goal

pub returns-clause-domain : goal.returns-clause-domain
returns-clause-domain c =
    let n = c.args.number in
    let ds = c.args.script.now.devices in
    let d = c.index-items-number.result in
    let is : d ≡ get_or ds (n - 1) d = subst (λ (xs : List ScriptDevice). d ≡ get_or xs (n - 1) d) c.items-2.ensures c.index-items-number.is in
    let behind : 0 < n = search rules in
    let all : length (devices ds) ≡ length ds = length-map ds device in
    let asked : n < suc (length (devices ds)) = c.requires in
    let within : n - 1 < length ds = omega (arith, all, asked, behind) in
    behind_own (record { modules = c.args.script.now.modules; config = view c.args.script.now.config; operational = view c.args.script.now.operational }) ds n d behind within is
    ∙ ap (λ (texts : List (List ℕ)). Some (record { modules = texts; config = view d.config; operational = view d.operational })) (sym c.items-3.ensures)
