-- The snapshots and batches of a listener at a path. `trees` are the trees of its store at the commits, by their numbers, and `own`
-- says whether the node at the path has its own row by its kind.
use Rattle.std.specs.Prelude.{◌≡◌, ℕ, zero, suc, ◌+◌, ◌-◌, ◌≤◌, Bool, List, [], ◌∷◌, ◌++◌}
use Rattle.sal_types.specs.declared.value.Step.{Step}
use Rattle.sal_types.specs.declared.row.Row.{Row}
use Rattle.sal_types.specs.Tree.{under}
use Rattle.sal_rows.specs.declared.change.Change.{Change}
use Rattle.sal_rows.specs.declared.batch.Opened.{Opened}
use Rattle.sal_rows.specs.declared.batch.Batch.{Batch}
use Rattle.sal_rows.specs.declared.batch.Part.{Part}
use Rattle.sal_rows.specs.Changes.{changes_under}
use Rattle.sal_rows.specs.Kinds.{kind_of}

-- for a listener that is opened at commit k
abbrev pub opened : (ℕ → List Row) → List Step → ℕ → Opened
opened trees p k = record { version = k; rows = under (trees k) p }

-- the part of commit k with these changes, if there are any
abbrev pub part_with : Bool → List Row → List Row → List Step → ℕ → List Change → List Part
part_with own before after p k [] = []
part_with own before after p k (c ∷ cs) = record { commit = k; kind = kind_of own before after p (c ∷ cs); list = c ∷ cs } ∷ []

-- the part of commit k, by the trees before and after it
abbrev pub part : Bool → List Row → List Row → List Step → ℕ → List Part
part own before after p k = part_with own before after p k (changes_under before after p)

-- the parts of the n commits after k
abbrev pub parts_after : Bool → (ℕ → List Row) → List Step → ℕ → ℕ → List Part
parts_after own trees p k zero = []
parts_after own trees p k (suc n) = part own (trees k) (trees (k + 1)) p (k + 1) ++ parts_after own trees p (k + 1) n

-- the batch of the commits after `from`, up to and including `to`
abbrev pub batch : Bool → (ℕ → List Row) → List Step → ℕ → ℕ → Batch
batch own trees p from to = record { from = from; to = to; lists = parts_after own trees p from (to - from) }

-- the commit and the changes of each part, without its kind
abbrev pub lists_of : List Part → List (ℕ × List Change)
lists_of [] = []
lists_of (p ∷ ps) = (p.commit, p.list) ∷ lists_of ps

-- the changes of a batch are those of its commits over these trees
pub record HasChangesOf (trees : ℕ → List Row) (p : List Step) (b : Batch) : Type 0 where
  pub own : Bool
  pub forward : b.from ≤ b.to
  pub lists : lists_of b.lists ≡ lists_of (parts_after own trees p b.from (b.to - b.from))
