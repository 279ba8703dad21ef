use Rattle.std.proofs.Common.{◌≡◌, take}
use Rattle.std.specs.List.{fold}
use Rattle.sal_draw.specs.Acts.{made_in}
use Rattle.sal_draw_script.specs.Rows.{tables_in, weave, weave_of}
use Rattle.sal_draw_script.proofs.rows.Weave.entries.Given as goal

abbrev pub invariant-loop-entry : goal.invariant-loop-entry
invariant-loop-entry l =
    (weave_of l.self ≡ fold (weave (tables_in l.ground.schemas.now) (made_in l.ground.made.now) l.from) (weave_of l.initial.self) (take l.entry-index l.log))
    × (l.self.place ≡ l.entry-index)
