use Rattle.std.proofs.Common.{◌≡◌, ◌++◌, drop, string_bytes}
use Rattle.sal_script.specs.Report.{reply_line}
use Rattle.sal_report.proofs.Lists.{lines_from}
use Rattle.sal_report.proofs.lines.push_client.Given as goal

abbrev pub invariant-loop-step : goal.invariant-loop-step
invariant-loop-step l = string_bytes l.text ++ lines_from (reply_line l.schemas l.client) l.step (drop l.step l.replies) ≡ string_bytes l.initial.text ++ lines_from (reply_line l.schemas l.client) 0 l.replies
