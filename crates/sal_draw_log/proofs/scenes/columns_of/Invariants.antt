use Rattle.std.proofs.Common.{◌≡◌, ◌++◌, drop}
use Rattle.std.specs.List.{filter_map}
use Rattle.sal_draw_log.specs.Drawn.{columns_of, mounted_by, saids_of}
use Rattle.sal_draw_log.proofs.scenes.columns_of.Given as goal

abbrev pub invariant-loop-i : goal.invariant-loop-i
invariant-loop-i l = l.columns.items ++ filter_map (λ s. mounted_by s.entry.call s.reply) (saids_of (drop l.i l.log) (drop l.i l.replies)) ≡ columns_of (saids_of l.log l.replies)
