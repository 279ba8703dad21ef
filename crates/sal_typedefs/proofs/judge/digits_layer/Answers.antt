use Rattle.std.proofs.Common.{◌≡◌, ◌∙◌, List, sym, ap, subst}
use Rattle.sal_restrict.specs.declared.yang_type.YangType.{out-YangType}
use Rattle.sal_restrict.specs.declared.yang_type.YangType.TheViews.{out-roll-YangType}
use Rattle.sal_typedefs.specs.declared.entry.Entry.{Entry}
use Rattle.sal_typedefs.specs.Restrictions.{Base, HasPositions, with_digits, digits_of}
use Rattle.sal_typedefs.proofs.PositionLists.{positions-digits}
use Rattle.sal_typedefs.proofs.judge.digits_layer.Goals as goal

pub returns-clause-positions : goal.returns-clause-positions
returns-clause-positions c has =
    let basis = c.args.basis.now in
    let digits = digits_of c.args.stmt.now in
    let layer = c.in_ok-layer.layer in
    let typed : layer.ty ≡ c.in_ok-ty.ty = ap (λ (b : Base). b.type) c.in_ok-layer.ensures.value in
    let same : out-YangType layer.ty ≡ with_digits digits (out-YangType basis.ty) = ap out-YangType (typed ∙ c.in_ok-ty.ensures.value) ∙ out-roll-YangType (with_digits digits (out-YangType basis.ty)) in
    let entries : layer.entries.items ≡ basis.entries.items = ap (λ (b : Base). b.entries) c.in_ok-layer.ensures.value ∙ c.as_slice.ensures.value in
    let P : List Entry → Type 0 = λ es. HasPositions (with_digits digits (out-YangType basis.ty)) es in
    rw same (subst P (sym entries) (positions-digits digits basis.entries.items (out-YangType basis.ty) has))
