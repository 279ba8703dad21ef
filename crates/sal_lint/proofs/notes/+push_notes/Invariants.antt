use Rattle.std.proofs.Common.{◌≡◌, ◌-◌, ◌++◌, take}
use Rattle.std.specs.List.{flat_map}
use Rattle.sal_module.specs.Statements.{subs_of}
use Rattle.sal_lint.specs.Notes.{notes_in}
use Rattle.sal_lint.proofs.notes.+push_notes.Given as goal

abbrev pub invariant-loop-sub : goal.invariant-loop-sub
invariant-loop-sub l = l.notes.items ≡ l.initial.notes.items ++ flat_map (notes_in (l.levels - 1)) (take l.sub-index (subs_of l.stmt))
