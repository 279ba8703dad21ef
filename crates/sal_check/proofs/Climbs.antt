-- Climbing a schema tree, a step at a time.
use Rattle.std.proofs.Common.{◌≡◌, ℕ, zero, suc, ◌+◌, ◌-◌, ◌<◌, ◌≤◌, Bool, true, false, cond, not, List, ◌∷◌, length, Option, Some, None, refl, ap, ◌∙◌, arith}
use Rattle.std.specs.Prelude.{IfSome}
use Rattle.std.specs.Option.{option_map_or}
use Rattle.sal_types.specs.declared.value.Step.{Step}
use Rattle.sal_types.specs.declared.value.Step.TheVariants.{Node}
use Rattle.sal_schema.specs.declared.kind.Kind.{Kind}
use Rattle.sal_schema.specs.declared.table.SchemaTable.{SchemaTable}
use Rattle.sal_schema.specs.Kinds.{is_choice_or_case, is_data, is_list}
use Rattle.sal_schema.specs.Table.{is_kind, kind_of, parent_of, closest, data_node, data_parent}
use Rattle.sal_schema.specs.Valid.{IsTable}
use Rattle.sal_schema.proofs.Facts.{closest-Some, closest-enough, parent_of_before, lower, is_there}
use Rattle.sal_schema.proofs.Facts.{slice_get_past}
use Rattle.std.specs.Option.{option_and_then, option_map}
use Rattle.sal_schema.specs.declared.table.NodeInfo.{NodeInfo}
use Rattle.sal_rules.specs.Contexts.{is_plain, through_plain, from_list}

left_of : (n i : ℕ) → i < n → n - i ≡ suc (n - (i + 1))
left_of n i h = omega arith

through-Some : (table : SchemaTable) (above : ℕ) (steps : List Step) (k : ℕ) → through_plain table (suc k) (Some above) steps ≡ cond (is_kind is_plain table above) (through_plain table k (parent_of table above) (Node above ∷ steps)) steps
unfolding through_plain
through-Some table above steps k = refl

-- a test of a node's kind
pub kind_says : (test : Kind → Bool) (table : SchemaTable) (n : ℕ) (kind : Kind) → kind_of table n ≡ Some kind → is_kind test table n ≡ test kind
kind_says test table n kind e = ap (λ o. option_map_or test o false) e

module _ (table : SchemaTable) (n i : ℕ) (here : i < n) where
  -- one step up
  pub closest_step : (test : Kind → Bool) (above : ℕ) → closest test table (n - i) (Some above) ≡ cond (is_kind test table above) (Some above) (closest test table (n - (i + 1)) (parent_of table above))
  closest_step test above = ap (λ k. closest test table k (Some above)) (left_of n i here) ∙ closest-Some test table (n - (i + 1)) above

  pub through_step : (above : ℕ) (steps : List Step) → through_plain table (n - i) (Some above) steps ≡ cond (is_kind is_plain table above) (through_plain table (n - (i + 1)) (parent_of table above) (Node above ∷ steps)) steps
  through_step above steps = ap (λ k. through_plain table k (Some above) steps) (left_of n i here) ∙ through-Some table above steps (n - (i + 1))

  -- and by the kind of the node
  pub through_kind : (test : Bool) (above : ℕ) (kind : Kind) (steps : List Step) → kind_of table above ≡ Some kind → is_plain kind ≡ test
      → through_plain table (n - i) (Some above) steps ≡ cond test (through_plain table (n - (i + 1)) (parent_of table above) (Node above ∷ steps)) steps
  through_kind test above kind steps is plain = through_step above steps ∙ ap (λ b. cond b (through_plain table (n - (i + 1)) (parent_of table above) (Node above ∷ steps)) steps) (kind_says is_plain table above kind is ∙ plain)

pub through-None : (table : SchemaTable) (k : ℕ) (steps : List Step) → through_plain table k None steps ≡ steps
unfolding through_plain
through-None table zero steps = refl
through-None table (suc k) steps = refl

through-zero : (table : SchemaTable) (here : Option ℕ) (steps : List Step) → through_plain table zero here steps ≡ steps
unfolding through_plain
through-zero table here steps = refl

pub through-end : (table : SchemaTable) (here : Option ℕ) (steps : List Step) (n i : ℕ) → n ≤ i → through_plain table (n - i) here steps ≡ steps
through-end table here steps n i h = ap (λ k. through_plain table k here steps) (let e : n - i ≡ zero = omega arith in e) ∙ through-zero table here steps

closest-zero : (test : Kind → Bool) (table : SchemaTable) (here : Option ℕ) → closest test table zero here ≡ None
unfolding closest
closest-zero test table here = refl

pub closest-end : (test : Kind → Bool) (table : SchemaTable) (here : Option ℕ) (n i : ℕ) → n ≤ i → closest test table (n - i) here ≡ None
closest-end test table here n i h = ap (λ k. closest test table k here) (let e : n - i ≡ zero = omega arith in e) ∙ closest-zero test table here

-- the data parent of the children of a node is the node itself, or its data parent if it is a choice or a case
pub data_node-Some : (table : SchemaTable) (n : ℕ) → IsTable table → n < length table.nodes → data_node table (Some n) ≡ cond (is_kind (λ kind. not (is_choice_or_case kind)) table n) (Some n) (data_parent table n)
data_node-Some table n good inside =
    let test : Kind → Bool = λ kind. not (is_choice_or_case kind) in
    let size = length table.nodes in
    let above = parent_of_before table n good in
    let enough = closest-enough test table (size - 1) size (parent_of table n) good (lower (parent_of table n) n (size - 1) above (omega arith)) (lower (parent_of table n) n size above (omega arith)) in
    ap (λ k. closest test table k (Some n)) (let e : size ≡ suc (size - 1) = omega arith in e)
    ∙ closest-Some test table (size - 1) n
    ∙ ap (λ r. cond (is_kind test table n) (Some n) r) enough

-- the result is a node
pub closest-inside : (test : Kind → Bool) (table : SchemaTable) (steps : ℕ) (here : Option ℕ) → IfSome (closest test table steps here) (λ k. k < length table.nodes)
unfolding closest
closest-inside test table zero here = tt
closest-inside test table (suc steps) None = tt
closest-inside test table (suc steps) (Some n) = elim (is_kind test table n) as (λ b. is_kind test table n ≡ b → IfSome (cond b (Some n) (closest test table steps (parent_of table n))) (λ k. k < length table.nodes)) [
  | true ↦ λ e. is_there test table n (rw e refl)
  | false ↦ λ e. closest-inside test table steps (parent_of table n)
] refl

-- ---- up to a list

from-Some : (table : SchemaTable) (above : ℕ) (steps : List Step) (k : ℕ) → from_list table (suc k) (Some above) steps
    ≡ cond (is_kind is_list table above) steps (from_list table k (parent_of table above) (cond (is_kind is_data table above) (Node above ∷ steps) steps))
unfolding from_list
from-Some table above steps k = refl

from-zero : (table : SchemaTable) (here : Option ℕ) (steps : List Step) → from_list table zero here steps ≡ steps
unfolding from_list
from-zero table here steps = refl

pub from-None : (table : SchemaTable) (k : ℕ) (steps : List Step) → from_list table k None steps ≡ steps
unfolding from_list
from-None table zero steps = refl
from-None table (suc k) steps = refl

pub from-step : (table : SchemaTable) (n i above : ℕ) (steps : List Step) → i < n → from_list table (n - i) (Some above) steps
    ≡ cond (is_kind is_list table above) steps (from_list table (n - (i + 1)) (parent_of table above) (cond (is_kind is_data table above) (Node above ∷ steps) steps))
from-step table n i above steps here = ap (λ k. from_list table k (Some above) steps) (left_of n i here) ∙ from-Some table above steps (n - (i + 1))

pub from-kind : (table : SchemaTable) (n i : ℕ) (test : Bool) (above : ℕ) (kind : Kind) (steps : List Step) → i < n → kind_of table above ≡ Some kind → is_list kind ≡ test
    → from_list table (n - i) (Some above) steps ≡ cond test steps (from_list table (n - (i + 1)) (parent_of table above) (cond (is_kind is_data table above) (Node above ∷ steps) steps))
from-kind table n i test above kind steps here is list =
    from-step table n i above steps here
    ∙ ap (λ b. cond b steps (from_list table (n - (i + 1)) (parent_of table above) (cond (is_kind is_data table above) (Node above ∷ steps) steps))) (kind_says is_list table above kind is ∙ list)

pub from-end : (table : SchemaTable) (here : Option ℕ) (steps : List Step) (n i : ℕ) → n ≤ i → from_list table (n - i) here steps ≡ steps
from-end table here steps n i h = ap (λ k. from_list table k here steps) (let e : n - i ≡ zero = omega arith in e) ∙ from-zero table here steps

outside : (test : Kind → Bool) (table : SchemaTable) (n : ℕ) → length table.nodes ≤ n → is_kind test table n ≡ false
outside test table n past = ap (λ r. option_map_or test (option_map (λ (node : NodeInfo). node.kind) r) false) (slice_get_past table.nodes n past)

no_parent : (table : SchemaTable) (n : ℕ) → length table.nodes ≤ n → parent_of table n ≡ None
no_parent table n past = ap (λ r. option_and_then (λ (node : NodeInfo). node.parent) r) (slice_get_past table.nodes n past)

-- a number past the table has no steps above it
pub from-outside : (table : SchemaTable) (n i above : ℕ) (steps : List Step) → i < n → length table.nodes ≤ above → from_list table (n - i) (Some above) steps ≡ steps
from-outside table n i above steps here past =
    from-step table n i above steps here
    ∙ (λ k. cond (outside is_list table above past k) steps (from_list table (n - (i + 1)) (no_parent table above past k) (cond (outside is_data table above past k) (Node above ∷ steps) steps)))
    ∙ from-None table (n - (i + 1)) steps
