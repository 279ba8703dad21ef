-- Typedefs by name.
use Rattle.std.specs.Prelude.{◌≡◌, ℕ, List, Option}
use Rattle.std.specs.Borrow.{Bor}
use Rattle.std.specs.BTreeMap.{BTreeMap, get_by}
use Rattle.std.specs.Cmp.Lexicographic.{slice_cmp}
use Rattle.std.specs.List.{position_from}
use Rattle.std.specs.Ordering.{nat_cmp}
use Rattle.sal_stmt.specs.declared.stmt.Stmt.{Stmt}
pub use Rattle.sal_module.specs.Firsts.{with_first}
use Rattle.sal_typedefs.specs.Scopes.{is_typedef_of}

-- the numbers of names
abbrev pub Numbers : Type 0
Numbers = BTreeMap (Bor (List ℕ)) ℕ

-- the number of this name
abbrev pub get_by_name : Numbers → List ℕ → Option ℕ
get_by_name numbers name = get_by (λ k. slice_cmp nat_cmp name k.now) numbers

-- the index of each typedef of a block, by name
abbrev pub AreTypedefs : List Stmt → Numbers → Type 0
AreTypedefs subs names = (q : List ℕ) → get_by_name names q ≡ position_from (is_typedef_of q) 0 subs
