-- The first fault counts.
use Rattle.std.proofs.Common.{sym, subst}
use Rattle.std.specs.Prelude.{◌≡◌, ◌⊎◌, Some}
use Rattle.sal_hub.specs.declared.opening.OpenFault.{OpenFault}
use Rattle.sal_hub.specs.declared.opening.OpenFault.TheVariants.{NoMemory}
use Rattle.sal_hub.specs.Openings.{domain_of, opening_fault}
use Rattle.sal_hub.proofs.OpenedDevices.{no_chains, no_fault, some_fault}
use Rattle.sal_hub.proofs.devices.open_one.Goals as goal

pub returns-in-Ok-open-clause-fault : goal.returns-in-Ok-open-clause-fault
returns-in-Ok-open-clause-fault c = no_fault c.args.rules c.args.number c.args.device.now c.in-Ok.ensures c.in-Ok-open.ensures.fault

pub returns-in-Err-open-clause-fault : goal.returns-in-Err-open-clause-fault
returns-in-Err-open-clause-fault c =
    subst (λ (e : OpenFault). (e ≡ NoMemory) ⊎ (opening_fault c.args.number (domain_of c.args.rules c.args.device.now) ≡ Some e)) (sym c.numbered.ensures)
    (some_fault c.args.rules c.args.number c.args.device.now c.in-Ok.ensures c.in-Err-open.fault c.in-Err-open.ensures.fault)

pub returns-in-Ok-open-clause-shown : goal.returns-in-Ok-open-clause-shown
returns-in-Ok-open-clause-shown c =
    let done = c.in-Ok-open.ensures in
    λ i. record {
      number = done.parts.0 i;
      live = done.parts.1 i;
      table = done.parts.2 i;
      first = done.first.0 i;
      upgrades = done.upgrades i;
      version = done.first.1 i;
      since = done.first.2 i;
      rules = done.rules i;
      opening = done.opening i;
      ops = done.commits i;
      chains = no_chains c.in-Ok-open.domain.commits.items done.commits i;
      receipts = done.receipts i;
    }
