-- The built-in types (RFC 7950 section 4.2.4), before a statement restricts them.
use Rattle.std.specs.Prelude.{ℕ, ◌-◌, ◌^◌, pos, neg_ℤ, Bool, true, false, List, [], ◌∷◌, map, find, Option, option_map}
use Rattle.std.specs.Borrow.{Bor}
use Rattle.sal_module.specs.Keywords.{same}
use Rattle.sal_restrict.specs.declared.ranges.Part.{Part}
use Rattle.sal_restrict.specs.declared.yang_type.YangType.{YangType, roll-YangType}
use Rattle.sal_restrict.specs.declared.yang_type.YangType.TheOpen.{YangType-F}
use Rattle.sal_typedefs.specs.declared.builtin.Builtin.{Builtin}
use Rattle.sal_typedefs.specs.declared.builtin.Builtin.TheVariants as type
use Rattle.sal_typedefs.specs.declared.builtin.Width.{Width}
use Rattle.sal_typedefs.specs.declared.builtin.Width.TheVariants as width
use Rattle.sal_typedefs.specs.declared.builtin.TheConstants.{NAMES}

-- ---- names

abbrev pub Name : Type 0
Name = List ℕ × Builtin

abbrev pub name_view : Bor (List ℕ) × Builtin → Name
name_view n = (n.0.now, n.1)

abbrev pub builtin_among : List Name → List ℕ → Option Builtin
builtin_among names name = option_map (λ (n : Name). n.1) (find (λ (n : Name). same n.0 name) names)

unfoldable pub names : List Name
names = map (λ n. (n.0.now, n.1)) NAMES

-- The name of a built-in type, without a prefix, always means that type.
unfoldable pub builtin_of : List ℕ → Option Builtin
unfolding names
builtin_of name = builtin_among names name

-- ---- types

-- the numbers of this many bits, with a sign or without
abbrev pub numbers_of : ℕ → Bool → List Part
numbers_of bits true = record { low = neg_ℤ (pos (2 ^ (bits - 1))); high = pos (2 ^ (bits - 1) - 1) } ∷ []
numbers_of bits false = record { low = pos 0; high = pos (2 ^ bits - 1) } ∷ []

abbrev pub lengths : List Part
lengths = numbers_of 64 false

abbrev pub bits_of : Width → ℕ
bits_of width.Bits8 = 8
bits_of width.Bits16 = 16
bits_of width.Bits32 = 32
bits_of width.Bits64 = 64

-- What a statement has to state is empty here: fraction digits, names, bases, members and the path.
abbrev pub bare : Builtin → YangType-F YangType
bare (type.Int width signed) = YangType-F.Int (bits_of width) signed (numbers_of (bits_of width) signed)
bare type.Dec = YangType-F.Dec 0 (numbers_of 64 true)
bare type.Text = YangType-F.Text lengths []
bare type.Bool = YangType-F.Bool
bare type.Enum = YangType-F.Enum [] []
bare type.Bits = YangType-F.Bits [] []
bare type.Bin = YangType-F.Bin lengths
bare type.Ident = YangType-F.Ident []
bare type.Empty = YangType-F.Empty
bare type.Union = YangType-F.Union []
bare type.Leafref = YangType-F.Leafref []

abbrev pub type_of : Builtin → YangType
type_of builtin = roll-YangType (bare builtin)
