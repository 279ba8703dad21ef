-- Look-ups among the names of an enumeration or of bits.
use Rattle.std.specs.Prelude.{◌≡◌, ℕ, ℤ, ◌≤ℤ◌, List, length}
use Rattle.std.specs.BTreeSet.{BTreeSet, contains}
use Rattle.std.specs.List.{position_from}
use Rattle.std.specs.Ordering.{int_cmp}
use Rattle.sal_module.specs.Keywords.{same}
use Rattle.sal_typedefs.specs.declared.entry.Entry.{Entry}
use Rattle.sal_typedefs.specs.declared.listing.Listing.{Listing}
use Rattle.sal_typedefs.specs.Blocks.{Numbers, get_by_name}
use Rattle.sal_typedefs.specs.Entries.{has_number, next, bound}

-- the index of the first entry with each name
abbrev pub AreNames : List Entry → Numbers → Type 0
AreNames entries names = (q : List ℕ) → get_by_name names q ≡ position_from (λ (e : Entry). same e.name q) 0 entries

-- the set of the numbers
abbrev pub AreValues : List Entry → BTreeSet ℤ → Type 0
AreValues entries numbers = (k : ℤ) → contains int_cmp numbers k ≡ has_number k entries

-- look-ups of the entries, and the number after the greatest, which is not great
pub record IsListing (l : Listing) : Type 0 where
  pub names : AreNames l.named.entries.items l.named.names
  pub values : AreValues l.named.entries.items l.numbers
  pub next : l.next ≡ next l.named.entries.items
  pub small : l.next ≤ℤ bound (length l.named.entries.items)
