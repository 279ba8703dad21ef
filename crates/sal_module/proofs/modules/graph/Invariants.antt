-- The modules so far.
use Rattle.std.proofs.Common.{◌≡◌, take, length, None}
use Rattle.sal_module.specs.Faults.{least}
use Rattle.sal_module.specs.Imports.{import_faults}
use Rattle.sal_module.specs.Modules.{AreNamed}
use Rattle.sal_module.proofs.Numbered.{numbered}
use Rattle.sal_module.proofs.modules.graph.Given as goal

abbrev pub invariant-loop-i : goal.invariant-loop-i
invariant-loop-i l =
    record {
      count : length l.all.items ≡ l.i;
      names : AreNamed l.stmts l.all.items;
      fault : l.best ≡ least None (numbered (import_faults l.stmts) 0 (take l.i l.stmts));
    }
