use Rattle.std.proofs.Common.{rules}
use Rattle.sal_module_table.specs.Identities.{seen, identities_in}
use Rattle.sal_module_table.proofs.Seen.{numbered-more}
use Rattle.sal_module_table.proofs.identities.identities_of.Goals as goal

pub loop-m-preserved : goal.loop-m-preserved
loop-m-preserved c =
    let stmts = c.args.stmts.now in
    numbered-more identities_in stmts c.loop-m.m c.index-stmts-m.result (seen c.loop-m.all.items) (seen c.push_identities.new.all.items) c.loop-m-test.true
    (search rules) c.loop-m.invariant c.in_ok-push_identities.ensures
