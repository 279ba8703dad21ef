-- The marks that were set in a log.
use Rattle.std.specs.Prelude.{◌≡◌, ℕ, Bool, List, is_some}
use Rattle.std.specs.List.{list_any}
use Rattle.std.specs.Ordering.{nat_cmp}
use Rattle.std.specs.BTreeMap.{BTreeMap, get}
use Rattle.sal_history.specs.declared.call.Entry.{Entry}
use Rattle.sal_history.specs.History.{marks}

-- the mark is a key of the map
abbrev pub is_key : BTreeMap ℕ (Unit {0}) → ℕ → Bool
is_key map mark = is_some (get nat_cmp map mark)

-- an entry set the mark
abbrev pub has_mark : List Entry → ℕ → Bool
has_mark log mark = list_any (λ e. marks e.call mark) log

abbrev pub AreMarked : List Entry → BTreeMap ℕ (Unit {0}) → Type 0
AreMarked log map = (mark : ℕ) → is_key map mark ≡ has_mark log mark
