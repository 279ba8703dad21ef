-- The index of the first of those so far with each name.
use Rattle.std.proofs.Common.{take}
use Rattle.sal_typedefs.specs.Listings.{AreNames}
use Rattle.sal_typedefs.proofs.listing.names_of.Given as goal

abbrev pub invariant-loop-k : goal.invariant-loop-k
invariant-loop-k l = AreNames (take l.k l.entries) l.names
