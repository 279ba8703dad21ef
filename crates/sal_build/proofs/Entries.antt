-- The names of enumerations and bits with their numbers, by names that other crates can use.
use Rattle.std.proofs.Common.{◌≡◌, true, false, IsTrue, List, [], Option, Some, None, refl}
use Rattle.std.specs.Prelude.{is_some}
use Rattle.sal_restrict.specs.declared.yang_type.YangType.TheOpen.{YangType-F}
use Rattle.sal_typedefs.specs.Entries.{item_of}
use Rattle.sal_typedefs.specs.Restrictions.{numbering_of}
use Rattle.sal_typedefs.specs.Types.{names_in}

abbrev Element : {X Y : Type 0} → (List X → Y) → Type 0
Element {X} {Y} f = X

abbrev Argument : {X Y : Type 0} → (X → Y) → Type 0
Argument {X} {Y} f = X

abbrev pub TypeEntry : Type 0
TypeEntry = Element names_in

abbrev pub TypeNumbering : Type 0
TypeNumbering = Argument item_of

pub wrong : false ≡ true → ⊥
wrong e = cc

abbrev the : {X : Type 0} (o : Option X) → IsTrue (is_some o) → X
the None h = absurd (wrong h)
the (Some x) h = x

abbrev pub enums : TypeNumbering
enums = the (numbering_of (YangType-F.Enum [] [])) refl

abbrev pub bits : TypeNumbering
bits = the (numbering_of (YangType-F.Bits [] [])) refl
