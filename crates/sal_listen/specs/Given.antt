-- The batches of a listener, from the commits that a domain keeps.
use Rattle.std.specs.Prelude.{ℕ, Bool, List, [], ◌∷◌}
use Rattle.sal_types.specs.declared.value.Store.{Store}
use Rattle.sal_types.specs.declared.value.Step.{Step}
use Rattle.sal_types.specs.declared.row.Row.{Row}
use Rattle.sal_rows.specs.declared.batch.Part.{Part}
use Rattle.sal_rows.specs.declared.change.Change.{Change}
use Rattle.sal_rows.specs.Changes.{changes_under}
use Rattle.sal_rows.specs.Commits.{tree_at}
use Rattle.sal_rows.specs.Kinds.{candidate_kind}
use Rattle.sal_tree.specs.declared.commit.Commit.{Commit}
use Rattle.sal_graft.specs.Kept.{opening_in, ops_of}

-- the trees of a store at the commits, by their numbers
abbrev pub trees_of : List Commit → Store → ℕ → List Row
trees_of commits s = tree_at (opening_in commits) (ops_of commits) s

-- the changes of commit k, from the trees before and after it, even if there are none
abbrev pub any_part : Bool → List Row → List Row → List Step → ℕ → Part
any_part own before after p k = record { commit = k; kind = candidate_kind own before after p; list = changes_under before after p }

-- the part, if it has changes
abbrev pub if_any : List Change → Part → List Part
if_any [] part = []
if_any (c ∷ cs) part = part ∷ []

abbrev pub filled : Part → List Part
filled part = if_any part.list part
