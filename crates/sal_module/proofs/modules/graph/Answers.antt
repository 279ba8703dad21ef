use Rattle.std.proofs.Common.{None, arith}
use Rattle.std.proofs.lemmas.Grind.{common_steps}
use Rattle.sal_module.specs.Imports.{import_faults}
use Rattle.sal_module.proofs.Named.{AreNamed-last}
use Rattle.sal_module.proofs.Numbered.{least_more}
use Rattle.sal_module.proofs.modules.graph.Goals as goal

pub loop-i-preserved : goal.loop-i-preserved
loop-i-preserved c =
    let stmts = c.args.stmts.now in
    let i = c.loop-i.i in
    let stmt = c.index-stmts-i.result in
    let more = AreNamed-last stmts c.loop-i.all.items i c.in_ok-prefixes.prefixes stmt c.loop-i.invariant.names c.loop-i.invariant.count c.loop-i-test.true c.index-stmts-i.is c.in_ok-prefixes.ensures.names in
    record {
      count = grind (arith, common_steps);
      names = rw c.in_ok-push.ensures.items more;
      fault = least_more (import_faults stmts) stmts i stmt None c.loop-i.best c.in_ok-prefixes.found c.loop-i-test.true c.index-stmts-i.is c.loop-i.invariant.fault c.in_ok-prefixes.ensures.fault;
    }
