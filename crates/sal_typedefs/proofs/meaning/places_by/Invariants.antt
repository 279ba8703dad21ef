-- The first places.
use Rattle.std.proofs.Common.{◌≡◌, take, map}
use Rattle.std.specs.Prelude.{unwrap_or, slice_index}
use Rattle.sal_typedefs.specs.Blocks.{get_by_name}
use Rattle.sal_typedefs.specs.declared.entry.Entry.{Entry}
use Rattle.sal_typedefs.proofs.meaning.places_by.Given as goal

abbrev pub invariant-loop-entry : goal.invariant-loop-entry
invariant-loop-entry l = l.list.items ≡ map (λ (e : Entry). slice_index l.places (unwrap_or (get_by_name l.firsts e.name) 0)) (take l.entry-index l.entries)
