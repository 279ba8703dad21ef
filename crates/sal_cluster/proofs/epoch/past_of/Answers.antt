-- The version of domain 0.
use Rattle.std.proofs.Common.{◌<◌, length, ◌∙◌, arith}
use Rattle.sal_hub.proofs.Upgrading.{own_number}
use Rattle.sal_cluster.specs.Leaders.{version_of}
use Rattle.sal_cluster.proofs.epoch.past_of.Goals as goal

pub returns-clause-version : goal.returns-clause-version
returns-clause-version c =
    let d = c.index-domains-0 in
    let inside : 0 < length c.domains.result.now = omega (arith, c.domains.ensures.all, c.stays_lawful.ensures.some) in
    (c.domains.ensures.each 0 d.result inside d.is).version ∙ own_number (version_of c.args.hub.now)

pub returns-clause-rules : goal.returns-clause-rules
returns-clause-rules c =
    let d = c.index-domains-0 in
    let inside : 0 < length c.domains.result.now = omega (arith, c.domains.ensures.all, c.stays_lawful.ensures.some) in
    (c.domains.ensures.each 0 d.result inside d.is).rules
