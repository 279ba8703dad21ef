-- Types, and rows of a rack that are left out.
use Rattle.std.specs.Prelude.{ℕ, zero, suc, pos, negsuc, true, false, List, [], ◌∷◌, codes}
use Rattle.sal_restrict.specs.declared.yang_type.YangType.{YangType, roll-YangType}
use Rattle.sal_restrict.specs.declared.yang_type.YangType.TheOpen.{YangType-F}
use Rattle.sal_json.specs.Examples.{text, whole}
use Rattle.sal_types.specs.declared.row.Row.{Row}

-- whole numbers of so many bits up to the largest one: from the least one, -1 - largest, or from 0
abbrev pub signed : ℕ → ℕ → YangType
signed bits largest = whole bits true (negsuc largest) (pos largest)

abbrev pub unsigned : ℕ → ℕ → YangType
unsigned bits largest = whole bits false (pos 0) (pos largest)

abbrev pub int8 : YangType
int8 = signed 8 127

abbrev pub int16 : YangType
int16 = signed 16 32767

abbrev pub int32 : YangType
int32 = signed 32 2147483647

abbrev pub uint16 : YangType
uint16 = unsigned 16 65535

abbrev pub uint32 : YangType
uint32 = unsigned 32 4294967295

-- at most eight characters
abbrev pub short : YangType
short = text (pos 0) (pos 8) []

-- the first and the last of six names
abbrev pub state : YangType
state = roll-YangType (YangType-F.Enum (codes "up" ∷ codes "down" ∷ []) (0 ∷ 5 ∷ []))

abbrev pub mask : YangType
mask = roll-YangType (YangType-F.Bits (codes "a" ∷ codes "b" ∷ codes "c" ∷ []) (0 ∷ 3 ∷ 63 ∷ []))

-- the rows but the one of this number
abbrev pub without : ℕ → List Row → List Row
without n [] = []
without zero (row ∷ rows) = rows
without (suc n) (row ∷ rows) = row ∷ without n rows
