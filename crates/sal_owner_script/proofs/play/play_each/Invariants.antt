use Rattle.std.proofs.Common.{string_bytes}
use Rattle.sal_owner_script.proofs.Playing.{IsPlayed}
use Rattle.sal_owner_script.proofs.play.play_each.Given as goal

abbrev pub invariant-loop-step : goal.invariant-loop-step
invariant-loop-step l = IsPlayed l.yielded l.book (string_bytes l.text)
