-- The nodes and the types so far.
use Rattle.std.proofs.Common.{◌≡◌, ◌++◌, drop}
use Rattle.sal_module_table.specs.Table.{infos_of, infos_from, types_before}
use Rattle.sal_module_table.proofs.info.infos_of.Given as goal

abbrev pub invariant-loop-k : goal.invariant-loop-k
invariant-loop-k l =
    record {
      infos : infos_of l.nodes.modules.now l.nodes.forest.now ≡ l.infos.items ++ infos_from l.nodes.modules.now l.nodes.forest.now l.k (drop l.k l.nodes.forest.now);
      types : l.types ≡ types_before l.nodes.modules.now l.nodes.forest.now l.k;
    }
