-- The page of a step.
use Rattle.std.specs.Prelude.{◌≡◌, ℕ, ◌+◌, ◌<◌, true, false, List, length, get_or}
use Rattle.std.specs.declared.sync.Arc.{Arc}
use Rattle.std.specs.declared.alloc.Global.{Global}
use Rattle.sal_types.specs.declared.value.Step.{Step}
use Rattle.sal_node.specs.Shape.{begins_after, sheet_after}
use Rattle.sal_node.specs.declared.node.Page.{Page}
use Rattle.sal_node.specs.declared.node.Sheet.{Sheet}

-- no page up to i begins after the step but perhaps the first, and the next one does
pub record IsTarget (ps : List (Arc Page Global)) (x : Step) (i : ℕ) : Type 0 where
  pub bound : i < length ps
  pub before : (d : Arc Page Global) → 0 < i → begins_after x (get_or ps i d).value.children.items ≡ false
  pub after : (d : Arc Page Global) → i + 1 < length ps → begins_after x (get_or ps (i + 1) d).value.children.items ≡ true

-- the same of sheets
pub record IsPlaced (ss : List (Arc Sheet Global)) (x : Step) (i : ℕ) : Type 0 where
  pub bound : i < length ss
  pub before : (d : Arc Sheet Global) → 0 < i → sheet_after x (get_or ss i d).value.pages.items ≡ false
  pub after : (d : Arc Sheet Global) → i + 1 < length ss → sheet_after x (get_or ss (i + 1) d).value.pages.items ≡ true
