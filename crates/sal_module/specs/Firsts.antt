-- Numbers by name: of equal names the first one counts.
use Rattle.std.specs.Prelude.{ℕ, Bool, Option, Some, None, is_some, if◌then◌else◌, String}
use Rattle.std.specs.declared.alloc.Global.{Global}
use Rattle.std.specs.BTreeMap.{BTreeMap}

-- the numbers of names
abbrev pub Numbers : Type 0
Numbers = BTreeMap (String Global) ℕ

-- the number found earlier, or k if this is a hit
abbrev pub with_first : Option ℕ → Bool → ℕ → Option ℕ
with_first found hit k = if is_some found then found else if hit then Some k else None
