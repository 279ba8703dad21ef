-- The names so far, with their look-up, and their least fault.
use Rattle.std.proofs.Common.{◌≡◌, [], take, filter}
use Rattle.std.specs.Prelude.{Some}
use Rattle.sal_module.specs.Faults.{least}
use Rattle.sal_module.specs.Statements.{is_named, subs_of}
use Rattle.sal_typedefs.specs.Entries.{item_of, entries_of, entry_faults}
use Rattle.sal_typedefs.specs.Listings.{AreNames}
use Rattle.sal_typedefs.proofs.entries.Naming.choose.Given as goal

abbrev pub invariant-loop-sub : goal.invariant-loop-sub
invariant-loop-sub l =
    record {
      entries : l.chosen.entries.items ≡ entries_of l.self.numbering (Some l.from) [] (filter (is_named (item_of l.self.numbering)) (take l.sub-index (subs_of l.stmt)));
      fault : l.best ≡ least l.initial.best (entry_faults l.self.numbering (Some l.from) l.self.number [] (filter (is_named (item_of l.self.numbering)) (take l.sub-index (subs_of l.stmt))));
      names : AreNames l.chosen.entries.items l.chosen.names;
    }
