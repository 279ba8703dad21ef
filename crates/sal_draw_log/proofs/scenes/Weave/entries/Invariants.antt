use Rattle.std.proofs.Common.{◌≡◌, drop}
use Rattle.std.specs.List.{fold}
use Rattle.sal_draw.specs.Acts.{made_in}
use Rattle.sal_draw_log.specs.Drawn.{saids_of, weave, weave_of}
use Rattle.sal_draw_log.proofs.scenes.Weave.entries.Given as goal

abbrev pub invariant-loop-i : goal.invariant-loop-i
invariant-loop-i l =
    (fold (weave l.ground.seats.now (made_in l.ground.made.now)) (weave_of l.self) (saids_of (drop l.i l.log) (drop l.i l.replies)) ≡ fold (weave l.ground.seats.now (made_in l.ground.made.now)) (weave_of l.initial.self) (saids_of l.log l.replies))
    × (l.self.place ≡ l.i)
