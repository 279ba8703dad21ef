-- A type that only its own statement restricts does not depend on the types below it.
use Rattle.std.proofs.Common.{◌≡◌, ℕ, List, refl}
use Rattle.sal_stmt.specs.declared.stmt.Stmt.{Stmt}
use Rattle.sal_restrict.specs.declared.yang_type.YangType.{YangType}
use Rattle.sal_restrict.specs.declared.yang_type.YangType.TheOpen.{YangType-F}
use Rattle.sal_typedefs.specs.declared.entry.Entry.{Entry}
use Rattle.sal_typedefs.specs.Restrictions.{Base, Layer, unlisted}
use Rattle.sal_typedefs.specs.Types.{IsPlain, restricted}

pub plain-restricted : (modules : List Stmt) (m : ℕ) (base : Base) (stmt : Stmt) (below : List YangType) (entries : List Entry) (layer : Layer) → IsPlain layer
    → restricted modules m (unlisted base.type base.itself) stmt below entries layer ≡ restricted modules m base stmt below entries layer
plain-restricted modules m base stmt below entries (YangType-F.Enum names places) h = absurd h
plain-restricted modules m base stmt below entries (YangType-F.Bits names positions) h = absurd h
plain-restricted modules m base stmt below entries (YangType-F.Ident bases) h = absurd h
plain-restricted modules m base stmt below entries (YangType-F.Union members) h = absurd h
plain-restricted modules m base stmt below entries layer h = refl
