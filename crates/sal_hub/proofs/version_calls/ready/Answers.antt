-- Why the domain does not go over to the version.
use Rattle.std.proofs.Common.{◌≡◌, true, ◌-◌, nat_eq, arith}
use Rattle.std.proofs.lemmas.Grind.{common_steps}
use Rattle.std.proofs.lemmas.Bool.Decides.{nat_tests}
use Rattle.sal_hub.proofs.Upgrading.{breach_refused, none_refused}
use Rattle.sal_hub.proofs.version_calls.ready.Goals as goal

pub returns-in-Ok : goal.returns-in-Ok
returns-in-Ok c =
    let own : nat_eq c.args.domain.now.version (c.args.version - 1) ≡ true = grind (arith, nat_tests, common_steps) in
    (none_refused c.args.domain.now c.args.version c.requires.low own c.in-Ok.ensures.fault, c.in-Ok.ensures.fault, c.in-Ok.ensures.next.0, c.in-Ok.ensures.next.1)

pub returns-in-Err-Broken : goal.returns-in-Err-Broken
returns-in-Err-Broken c =
    let own : nat_eq c.args.domain.now.version (c.args.version - 1) ≡ true = grind (arith, nat_tests, common_steps) in
    breach_refused c.args.domain.now c.args.version c.requires.low own c.in-Err-Broken.field-0 c.in-Err-Broken.store c.in-Err-Broken.breach c.in-Err-Broken.field-0-is c.in-Err-Broken.ensures.fault
