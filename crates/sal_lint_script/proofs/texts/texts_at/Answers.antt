-- The devices come after domain 0.
use Rattle.std.proofs.Common.{rules, ◌≡◌, ◌-◌, ◌<◌, ℕ, List, IfOk, get_or, length, subst, sym}
use Rattle.sal_script.specs.declared.script.ScriptDevice.{ScriptDevice}
use Rattle.sal_script.specs.Limits.{all_texts}
use Rattle.sal_lint_script.specs.Linted.{texts_in}
use Rattle.sal_lint_script.proofs.Borrowed.{of_device}
use Rattle.sal_lint_script.proofs.texts.texts_at.Goals as goal

pub returns-then-device-devices-clause-texts : goal.returns-then-device-devices-clause-texts
returns-then-device-devices-clause-texts c =
    let n = c.args.number in
    let script = c.args.script.now in
    let ds = script.devices in
    let d = c.index-devices-device.result in
    let is : d ≡ get_or ds (n - 1) d = subst (λ (xs : List ScriptDevice). d ≡ get_or xs (n - 1) d) c.items-devices.ensures c.index-devices-device.is in
    let behind : 0 < n = search rules in
    let within : n - 1 < length ds = subst (λ (xs : List ScriptDevice). n - 1 < length xs) c.items-devices.ensures c.if-device-devices.true in
    let here = of_device (all_texts script.modules script.upgrades) ds n d behind within is in
    subst (λ (texts : List (List ℕ)). IfOk c.device_texts.result (λ list. texts_in list.items ≡ texts)) (sym here) c.device_texts.ensures.texts
