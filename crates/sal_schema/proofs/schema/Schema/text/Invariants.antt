-- The lines so far and those of the nodes that are left are all lines.
use Rattle.std.proofs.Common.{◌≡◌, ◌++◌, drop, string_bytes}
use Rattle.sal_schema.specs.Table.{each_from}
use Rattle.sal_schema.specs.Text.{line_of}
use Rattle.sal_schema.proofs.schema.Schema.text.Given as goal

abbrev pub invariant-loop-i : goal.invariant-loop-i
invariant-loop-i l = string_bytes l.text ++ each_from (line_of l.self) l.i (drop l.i l.self.nodes) ≡ each_from (line_of l.self) 0 l.self.nodes
