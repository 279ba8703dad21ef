-- Conditions for closed trees in a log, and which trees these are. Both refer to the present version of the schema.
use Rattle.std.specs.Prelude.{◌≡◌, ℕ, suc, List, [], Some, slice_get}
use Rattle.sal_schema.specs.declared.table.SchemaTable.{SchemaTable}
use Rattle.sal_schema.specs.Valid.{IsTable}
use Rattle.sal_schema.specs.Versions.{Extends}
use Rattle.sal_history.specs.Answered.{Answered}
use Rattle.sal_history.specs.History.{began_at, sents, trees_at}
use Rattle.sal_history.specs.Submissions.{Base, Sent}
use Rattle.sal_history.specs.Versions.{tables_now}
use Rattle.sal_history.specs.World.{Domain, tree_of_opening, version_in}
use Rattle.sal_history_laws.specs.Lawful.{AreClosed, AreLawful}

-- Each version of a domain has the table of a schema and extends the version before, and the opening trees are closed by version 0.
pub record IsSound (domain : Domain) : Type 0 where
  pub tables : (v : ℕ) → IsTable (version_in domain v)
  pub chain : (v : ℕ) → Extends (version_in domain (suc v)) (version_in domain v)
  pub opening : AreClosed domain.table (tree_of_opening domain.opening)

abbrev pub AreSound : List Domain → Type 0
AreSound world = (number : ℕ) (domain : Domain) → slice_get world number ≡ Some domain → IsSound domain

-- a submission's operations are lawful, by these tables, over the trees of its transaction's base
abbrev pub IsSentLawful : (ℕ → SchemaTable) → Sent → Type 0
IsSentLawful tables s = AreLawful (tables s.base.domain) s.base.trees [] s.ops

-- and so are those of each, by the present version
abbrev pub AreSentLawful : List Domain → List Answered → Type 0
AreSentLawful world answered = (i : ℕ) (s : Sent) → slice_get (sents answered) i ≡ Some s → IsSentLawful (tables_now world answered) s

-- The trees of each domain at each of its commits are closed by its present table, the opening and the newest ones included; so are
-- those of each transaction's base.
pub record IsClosedLog (world : List Domain) (answered : List Answered) : Type 0 where
  pub commits : (domain k : ℕ) → AreClosed (tables_now world answered domain) (λ s. trees_at world answered domain s k)
  pub bases : (place : ℕ) (b : Base) → began_at answered place ≡ Some b → AreClosed (tables_now world answered b.domain) b.trees
