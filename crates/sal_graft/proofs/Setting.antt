-- The paths that operations touch and set, as the search tests them.
use Rattle.std.proofs.Common.{◌≡◌, Bool, true, false, List, [], ◌∷◌, ◌&&◌, ◌||◌, Option, Some, None, refl, ap, sym, ◌∙◌, if◌then◌else◌}
use Rattle.std.specs.Prelude.{is_some}
use Rattle.std.specs.Option.{option_or}
use Rattle.sal_types.specs.declared.value.Store.{Store}
use Rattle.sal_types.specs.declared.value.Step.{Step}
use Rattle.sal_types.specs.declared.value.Cell.{Cell}
use Rattle.sal_types.specs.declared.row.Row.{Row}
use Rattle.sal_types.specs.Prefix.{is_prefix}
use Rattle.sal_types.specs.Tree.{cell, has}
use Rattle.sal_rows.specs.declared.op.Op.{Op}
use Rattle.sal_rows.specs.declared.op.Act.TheVariants.{Put, Merge, Delete, Read}
use Rattle.sal_rows.specs.Apply.{same_store, setting, last_setting, act_setting}
use Rattle.sal_rows.specs.Touch.{op_touches}
use Rattle.sal_node.specs.Tree.{Tree, IsGrove}
use Rattle.sal_tree.specs.Rows.{rows_of}
use Rattle.sal_tree.proofs.Cells.{has-rows_of}
use Rattle.sal_tree.proofs.Edited.{clears}
use Rattle.sal_tree.proofs.Touches.{clears-any, set_by_put, set_by_delete, absorbed, read-touches}
use Rattle.sal_graft.specs.Rows.{is_cleared, is_set}

cleared : (t : Tree) (p q : List Step) → IsGrove t.kids → is_cleared (rows_of t) p q ≡ clears p t q
cleared t p q g = λ i. (is_prefix p q && has-rows_of t g q i) || (is_prefix q p && has-rows_of t g p i)

pub put-touches : (t : Tree) (s : Store) (p q : List Step) (rows : List Row) → IsGrove t.kids → (has rows q || is_cleared (rows_of t) p q) ≡ op_touches (rows_of t) (record { store = s; path = p; act = Put rows }) q
put-touches t s p q rows g = ap (λ b. has rows q || b) (cleared t p q g ∙ clears-any t p q (act_setting p (Put rows)) (λ r. set_by_put (is_prefix p r) (cell rows r)) g)

pub merge-touches : (t : Tree) (s : Store) (p q : List Step) (rows : List Row) → has rows q ≡ op_touches (rows_of t) (record { store = s; path = p; act = Merge rows }) q
merge-touches t s p q rows = sym (absorbed rows (rows_of t) q)

pub delete-touches : (t : Tree) (s : Store) (p q : List Step) → IsGrove t.kids → is_cleared (rows_of t) p q ≡ op_touches (rows_of t) (record { store = s; path = p; act = Delete }) q
delete-touches t s p q g = cleared t p q g ∙ clears-any t p q (act_setting p Delete) (λ r. set_by_delete (is_prefix p r)) g

pub untouched-by_read : (t : Tree) (s : Store) (p q : List Step) → false ≡ op_touches (rows_of t) (record { store = s; path = p; act = Read }) q
untouched-by_read t s p q = sym (read-touches (rows_of t) p q)

-- ---- paths that are set

either : (x y : Option (Option Cell)) → is_some (option_or x y) ≡ (is_some y || is_some x)
either None None = refl
either None (Some b) = refl
either (Some a) None = refl
either (Some a) (Some b) = refl

in_store : (b : Bool) (o : Option (Option Cell)) → is_some (if b then o else None) ≡ (b && is_some o)
in_store true o = refl
in_store false o = refl

pub is_set-last : (ops : List Op) (s : Store) (p : List Step) → is_set ops s p ≡ is_some (last_setting s ops p)
is_set-last [] s p = refl
is_set-last (op ∷ ops) s p =
    (λ i. sym (in_store (same_store op.store s) (act_setting op.path op.act p)) i || is_set-last ops s p i) ∙ sym (either (last_setting s ops p) (setting s op p))
