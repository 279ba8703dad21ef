use Rattle.std.proofs.Common.{◌≡◌, ◌∙◌, List, false, sym, ap, subst}
use Rattle.std.specs.Prelude.{is_some}
use Rattle.sal_restrict.specs.declared.yang_type.YangType.{out-YangType}
use Rattle.sal_restrict.specs.declared.yang_type.YangType.TheViews.{out-roll-YangType}
use Rattle.sal_typedefs.specs.declared.entry.Entry.{Entry}
use Rattle.sal_typedefs.specs.Restrictions.{Layer, HasPositions, HasPlaces}
use Rattle.sal_typedefs.specs.Judgements.{base_seen}
use Rattle.sal_typedefs.specs.Types.{restricted}
use Rattle.sal_typedefs.proofs.PositionLists.{positions-listed, positions-kept}
use Rattle.sal_typedefs.proofs.EnumLists.{places-listed}
use Rattle.sal_typedefs.proofs.layer.Restriction.judge_layer.Goals as goal

pub typed-requires-clause-positions : goal.typed-requires-clause-positions
typed-requires-clause-positions c =
    let a = c.args in
    let s = a.self.now in
    let layer = out-YangType a.basis.now.ty in
    let P : List Entry → Type 0 = λ es. HasPositions layer es in
    let none : is_some c.in_ok-best-2.best ≡ false = sym c.is_some.ensures ∙ c.if-is_some.false in
    subst P (sym (c.as_slice.ensures.value ∙ c.in_ok-best-2.ensures.entries))
    (positions-listed (base_seen a.basis.now) s.number s.stmt.now c.in_ok-best.best layer c.requires.positions (ap is_some (sym c.in_ok-best-2.ensures.fault) ∙ none))

pub returns-clause-positions : goal.returns-clause-positions
returns-clause-positions c =
    let a = c.args in
    let s = a.self.now in
    let layer = out-YangType a.basis.now.ty in
    let entries = c.in_ok-best-2.entries.items in
    let P : List Entry → Type 0 = λ es. HasPositions layer es in
    let none : is_some c.in_ok-best-2.best ≡ false = sym c.is_some.ensures ∙ c.if-is_some.false in
    let listed : HasPositions layer entries = subst P (sym c.in_ok-best-2.ensures.entries)
    (positions-listed (base_seen a.basis.now) s.number s.stmt.now c.in_ok-best.best layer c.requires.positions (ap is_some (sym c.in_ok-best-2.ensures.fault) ∙ none)) in
    let meant : Layer = restricted s.typedefs.now s.number (base_seen a.basis.now) s.stmt.now s.types.now c.as_slice.result.now layer in
    let same : out-YangType c.in_ok-ty.ty ≡ meant = ap out-YangType c.in_ok-ty.ensures.value ∙ out-roll-YangType meant in
    let Q : Layer → Type 0 = λ l. HasPositions l entries in
    let R : List Entry → Type 0 = λ es. HasPositions (restricted s.typedefs.now s.number (base_seen a.basis.now) s.stmt.now s.types.now es layer) entries in
    subst Q (sym same) (subst R (sym c.as_slice.ensures.value) (positions-kept s.typedefs.now s.number (base_seen a.basis.now) s.stmt.now s.types.now entries layer listed))

pub typed-requires-clause-places : goal.typed-requires-clause-places
typed-requires-clause-places c =
    let a = c.args in
    let s = a.self.now in
    let layer = out-YangType a.basis.now.ty in
    let P : List Entry → Type 0 = λ es. HasPlaces a.basis.now.itself layer es in
    let none : is_some c.in_ok-best-2.best ≡ false = sym c.is_some.ensures ∙ c.if-is_some.false in
    subst P (sym (c.as_slice.ensures.value ∙ c.in_ok-best-2.ensures.entries))
    (places-listed (base_seen a.basis.now) s.number s.stmt.now c.in_ok-best.best layer (ap is_some (sym c.in_ok-best-2.ensures.fault) ∙ none))
