use Rattle.std.proofs.Common.{◌∙◌, ap}
use Rattle.sal_restrict.specs.declared.yang_type.YangType.{out-YangType, roll-YangType}
use Rattle.sal_typedefs.specs.Judgements.{base_seen}
use Rattle.sal_typedefs.proofs.PlainTypes.{plain-restricted}
use Rattle.sal_typedefs.proofs.layer.Restriction.typed.Goals as goal

pub returns-then-is_plain-clause-value : goal.returns-then-is_plain-clause-value
returns-then-is_plain-clause-value c =
    let a = c.args in
    let s = a.self.now in
    let modules = s.typedefs.now in
    let layer = out-YangType a.basis.now.ty in
    let plain = c.is_plain.ensures.yes c.if-is_plain.true in
    c.in_ok-ty.ensures.value plain modules s.number s.types.now a.entries.now
    ∙ ap roll-YangType (plain-restricted modules s.number (base_seen a.basis.now) s.stmt.now s.types.now a.entries.now layer plain)
