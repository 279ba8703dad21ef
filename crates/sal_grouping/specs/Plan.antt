-- The input of growth.
use Rattle.std.specs.Prelude.{◌≡◌, ℕ, Bool, true, false, not, ◌&&◌, List, Option, slice_index_or}
use Rattle.std.specs.List.{list_all}
use Rattle.sal_grouping.specs.declared.rows.Row.{Row}
use Rattle.sal_grouping.specs.declared.plan.Plan.{Plan}
use Rattle.sal_grouping.specs.Rows.{inside, keyword_at}
use Rattle.sal_grouping.specs.Indexes.{lists, AreInside}
use Rattle.sal_grouping.specs.Growth.{is_node, used_by}

-- a statement makes no node, and names no block that is not marked
abbrev pub is_bare : List Row → List (Option ℕ) → List Bool → ℕ → Bool
is_bare rows named bare k = not (is_node (keyword_at rows k)) && list_all (λ g. slice_index_or bare g false) (used_by named k)

-- a marked block has only such statements, so it has no nodes
abbrev pub AreBare : List Row → List (Option ℕ) → List Bool → Type 0
AreBare rows named bare = (g : ℕ) → slice_index_or bare g false ≡ true → list_all (is_bare rows named bare) (inside rows g) ≡ true

-- the statements, the statements in the block of each, the groupings that they name, and blocks without nodes
pub record IsPlan (all : List Row) (uses : List (Option ℕ)) (plan : Plan) : Type 0 where
  pub rows : plan.rows.items ≡ all
  pub named : plan.named.items ≡ uses
  pub inside : AreInside all (lists plan.inside.items)
  pub bare : AreBare all uses plan.bare.items
