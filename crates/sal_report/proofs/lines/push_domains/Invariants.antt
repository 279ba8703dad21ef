use Rattle.std.proofs.Common.{◌≡◌, ◌++◌, take, string_bytes}
use Rattle.std.specs.List.{flat_map}
use Rattle.sal_script.specs.Report.{tree_line}
use Rattle.sal_report.proofs.lines.push_domains.Given as goal

abbrev pub invariant-loop-domain : goal.invariant-loop-domain
invariant-loop-domain l = string_bytes l.text ≡ string_bytes l.initial.text ++ flat_map (tree_line l.schemas) (take l.domain-index l.trees)
