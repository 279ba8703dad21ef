-- The members of the first types.
use Rattle.std.proofs.Common.{◌≡◌, take}
use Rattle.std.specs.List.{flat_map}
use Rattle.sal_restrict.specs.declared.yang_type.YangType.{YangType, out-YangType}
use Rattle.sal_typedefs.specs.Types.{members_of}
use Rattle.sal_typedefs.proofs.meaning.flat.Given as goal

abbrev pub invariant-loop-ty : goal.invariant-loop-ty
invariant-loop-ty l = l.list.items ≡ flat_map (λ (t : YangType). members_of t (out-YangType t)) (take l.ty-index l.types)
