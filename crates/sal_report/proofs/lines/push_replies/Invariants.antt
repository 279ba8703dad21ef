use Rattle.std.proofs.Common.{◌≡◌, ◌++◌, drop, string_bytes}
use Rattle.sal_report.proofs.Lists.{client_text, lines_from}
use Rattle.sal_report.proofs.lines.push_replies.Given as goal

abbrev pub invariant-loop-client : goal.invariant-loop-client
invariant-loop-client l = string_bytes l.text ++ lines_from (client_text l.schemas) l.client (drop l.client l.replies) ≡ string_bytes l.initial.text ++ lines_from (client_text l.schemas) 0 l.replies
