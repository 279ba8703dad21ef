-- A view follows its base.
use Rattle.std.proofs.Common.{◌≡◌, true, false, refl, ap, sym, ◌∙◌}
use Rattle.std.proofs.lemmas.Option.{none-some}
use Rattle.sal_rows.specs.Touch.{touches}
use Rattle.sal_node.specs.Tree.{Tree}
use Rattle.sal_tree.specs.Rows.{rows_of}
use Rattle.sal_tree.proofs.Follows.{some_same}
use Rattle.sal_tx.specs.Views.{stamp_of}
use Rattle.sal_commit_laws.proofs.Ages.{first_has_none, next_has_none, no_view}
use Rattle.sal_commit_laws.proofs.laws.views_have_stamps_of_their_own.Goals as goal

pub returns-clause-own : goal.returns-clause-own
returns-clause-own _ commits k place d s following first at_d p n stands = no_view commits following s p place k d n first at_d stands

pub returns-clause-first : goal.returns-clause-first
returns-clause-first _ commits place c s following at_c none = first_has_none commits following place c s at_c none

pub returns-clause-next : goal.returns-clause-next
returns-clause-next _ commits place c s none at_c = next_has_none commits place c s none at_c

pub returns-clause-touched : goal.returns-clause-touched
returns-clause-touched _ place s ops base view p n m after none a b = (
  (λ same. elim (touches (rows_of base) s ops p) as (λ t. touches (rows_of base) s ops p ≡ t → t ≡ false) [
    | true ↦ λ is. absurd (none p n a (same ∙ after.stamps.stamped p m is b))
    | false ↦ λ is. refl
  ] refl),
  (λ is. ap (λ (t : Tree). t.stamp) (some_same n m (sym a ∙ sym (after.stamps.kept p is) ∙ b))),
)

pub returns-clause-others : goal.returns-clause-others
returns-clause-others _ place s ops base view p m after a b =
    elim (touches (rows_of base) s ops p) as (λ t. touches (rows_of base) s ops p ≡ t → m.stamp ≡ stamp_of place) [
      | true ↦ λ is. after.stamps.stamped p m is b
      | false ↦ λ is. absurd (none-some m (sym a ∙ sym (after.stamps.kept p is) ∙ b))
    ] refl
